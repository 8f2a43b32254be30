-- One more instruction by ids is one more instruction of the definition.
use Rattle.std.proofs.Common.{◌≡◌, ℕ, ◌+◌, ◌*◌, ◌<◌, ◌≤◌, ◌^◌, List, [], ◌∷◌, ◌++◌, length, map, Option, Some, None, get_or, refl, ap, sym, ◌∙◌, subst, arith, length-append, append_assoc}
use Rattle.std.specs.Prelude.{Result, Ok, Err, slice_index_or}
use Rattle.std.specs.Result.{IsErrAnd}
use Rattle.std.proofs.Math.ListN.{get_or-append}
use Rattle.std.proofs.Math.Seq.{get_or-append_seam}
use Rattle.std.proofs.Math.Nat.{mul-le-mul_right}
use Rattle.std.proofs.lemmas.List.{map-append, append-nil}
use Rattle.std.proofs.lemmas.List.Concat.{flat_map-cons}
use Rattle.std.specs.List.{flat_map}
use Rattle.lh_unit.specs.Contents.{InstText, LineText, ArgText}
use Rattle.lh_unit.specs.Naming.{Naming, value_text, maybe_text, inst_text}
use Rattle.lh_unit.specs.Within.{Each, MaybeWithin, InstWithin}
use Rattle.lh_unit.specs.declared.inst.ValueId.{ValueId}
use Rattle.lh_unit.specs.declared.inst.Inst.{Inst}
use Rattle.lh_unit.proofs.Lists.{Each-append, map-each}
use Rattle.lh_unit.proofs.Within.{Each-more, InstWithin-more}
use Rattle.lh_unit.proofs.Texts.{Agree, maybe-same, inst-same}
use Rattle.lh_emit_def.specs.Names.{value_name, free_number}
use Rattle.lh_emit_def.specs.Emitted.{Source, Emitted, gives, puts, next_name}
use Rattle.lh_emit_body.specs.Fresh.{IsFresh, PassesOver}
use Rattle.lh_emit_body.specs.Lines.{most_lines, naming, line_text, values_alone, IsNamedLine, LinesAreEmitted, LinesHaveRoom, BeginsWith, AddsBodyArg, arg_names, result_name, NamesGrow, NamesNext, with_line, GivesValue, GivesOne, PutsOne}
use Rattle.lh_emit_body.specs.declared.lines.BodyLine.{BodyLine}
use Rattle.lh_emit_body.specs.declared.lines.EmitFault.{EmitFault}
use Rattle.lh_emit_body.specs.declared.lines.EmitFault.TheVariants as fault
use Rattle.lh_emit_body.specs.declared.lines.Lines.{Lines}
use Rattle.lh_emit_body.specs.declared.names.Fresh.{Fresh}

-- ---- names that are added

more-agree : (old more : List (List ℕ)) → Agree (values_alone (length old)) (naming (old ++ more)) (naming old)
more-agree old more = record {
  units = λ k h. absurd (omega (arith, h));
  values = λ k h. get_or-append old more [] k h;
  labels = λ k h. absurd (omega (arith, h));
}

flat-more : (lines : List LineText) (l : LineText) → flat_map result_name lines ++ result_name l ≡ flat_map result_name (lines ++ l ∷ [])
flat-more [] l = sym (flat_map-cons result_name l [] ∙ append-nil (result_name l))
flat-more (x ∷ lines) l =
    ap (λ xs. xs ++ result_name l) (flat_map-cons result_name x lines)
    ∙ append_assoc (result_name x) (flat_map result_name lines) (result_name l)
    ∙ ap (λ xs. result_name x ++ xs) (flat-more lines l)
    ∙ sym (flat_map-cons result_name x (lines ++ l ∷ []))

-- the names of one more line
names-more : (first : List (List ℕ)) (lines : List LineText) (l : LineText) → (first ++ flat_map result_name lines) ++ result_name l ≡ first ++ flat_map result_name (lines ++ l ∷ [])
names-more first lines l = append_assoc first (flat_map result_name lines) (result_name l) ∙ ap (λ x. first ++ x) (flat-more lines l)

line-kept : (old more : List (List ℕ)) (l : BodyLine) → IsNamedLine (length old) l → line_text (old ++ more) l ≡ line_text old l
line-kept old more l h =
    let a = more-agree old more in
    let p : maybe_text (naming (old ++ more)) l.result ≡ maybe_text (naming old) l.result = maybe-same (values_alone (length old)) (naming (old ++ more)) (naming old) a l.result h.0 in
    let q : inst_text (naming (old ++ more)) l.inst ≡ inst_text (naming old) l.inst = inst-same (values_alone (length old)) (naming (old ++ more)) (naming old) a l.inst h.1 in
    λ i. record { result = p i; inst = q i }

named-more : (n m : ℕ) → n ≤ m → (l : BodyLine) → IsNamedLine n l → IsNamedLine m l
named-more n m w l h = (result l.result h.0, InstWithin-more (values_alone n) (values_alone m) l.inst (omega arith) w (omega arith) h.1)
  where
    result : (v : Option ValueId) → MaybeWithin (values_alone n) v → MaybeWithin (values_alone m) v
    result None k = tt
    result (Some v) k = let z : v.0 < n = k in omega (arith, z, w)

-- ---- room

room-next : (a k c n m : ℕ) → n ≤ k * (c + 1) → m ≤ n + c + 1 → a ≡ k + 1 → m ≤ a * (c + 1)
room-next a k c n m h l e =
    let q : (k + 1) * (c + 1) ≡ k * (c + 1) + (c + 1) = omega arith in
    rw e (omega (arith, q, h, l))

room-more : (k c n : ℕ) → n ≤ k * (c + 1) → n ≤ k * (c + 1 + 1)
room-more k c n h = let q : k * (c + 1 + 1) ≡ k * (c + 1) + k = omega arith in omega (arith, q, h)

-- the number from which the next name is sought
pub room-seek : (ls : Lines) → LinesHaveRoom ls → ls.fresh.next + ls.fresh.count < 2 ^ 63
unfolding most_lines
room-seek ls h =
    let few : ls.fresh.count < 4294967296 = h.few in
    let m : length ls.lines * (ls.fresh.count + 1) ≤ 65536 * (ls.fresh.count + 1) = mul-le-mul_right (ls.fresh.count + 1) h.short in
    omega (arith, few, m, h.room)

short-next : (n b : ℕ) → n ≤ b → (n ≡ b → ⊥) → n + 1 ≤ b
short-next n b h d = grind (arith, h, d)

below-most : (n b : ℕ) → n ≤ b → (n ≡ b → ⊥) → n < b
below-most n b h d = grind (arith, h, d)

pub has-few : (ls : Lines) → LinesHaveRoom ls → (length ls.lines ≡ 65536 → ⊥) → length ls.lines < most_lines
unfolding most_lines
has-few ls h d = below-most (length ls.lines) 65536 h.short d

pub not-all : (n b : ℕ) → n < b → n ≡ b → ⊥
not-all n b h e = omega (arith, h, e)

pub is-most : (n : ℕ) → n ≡ 65536 → n ≡ most_lines
unfolding most_lines
is-most n e = e

pub not-most : (n : ℕ) → (n ≡ 65536 → ⊥) → n ≡ most_lines → ⊥
unfolding most_lines
not-most n d e = d e

-- nothing is said where memory ran out
pub puts-nothing : (old new : Lines) (i : Inst) (r : Result (Unit {0}) EmitFault) → IsErrAnd r (λ f. f ≡ fault.OutOfMemory) → PutsOne old i new r
puts-nothing old new i (Ok u) e = absurd e
puts-nothing old new i (Err fault.OutOfMemory) e = tt
puts-nothing old new i (Err fault.EntityTooLarge) e = absurd cc

pub gives-nothing : (old new : Lines) (i : Inst) (r : Result ValueId EmitFault) → IsErrAnd r (λ f. f ≡ fault.OutOfMemory) → GivesOne old i new r
gives-nothing old new i (Ok v) e = absurd e
gives-nothing old new i (Err fault.OutOfMemory) e = tt
gives-nothing old new i (Err fault.EntityTooLarge) e = absurd cc

-- no instructions
pub no-room : (ls : Lines) → ls.fresh.count ≡ 0 → ls.fresh.next ≡ 0 → ls.lines ≡ [] → LinesHaveRoom ls
no-room ls c n l = record {
  few = rw c (omega arith);
  room = rw n (omega arith);
  short = rw l (omega arith);
  named = rw l tt;
}

pub begins-none : (ls : Lines) → IsFresh [] ls.fresh → ls.fresh.next ≡ 0 → ls.lines ≡ [] → ls.names ≡ [] → BeginsWith [] ls
begins-none ls f n l m = record { fresh = f; next = n; lines = l; names = m }

-- one more argument
pub adds-arg : (old new : Lines) (n : List ℕ) → LinesHaveRoom old → old.fresh.count < 4294967295 → PassesOver n old.fresh new.fresh → new.fresh.next ≡ old.fresh.next → new.fresh.count ≡ old.fresh.count + 1
    →
    new.names ≡ old.names ++ n ∷ [] → new.lines ≡ old.lines → AddsBodyArg n old new
adds-arg old new n h few passed next count nn nl = (
  λ args a e b. record {
    fresh = passed args a e b.fresh;
    next = next ∙ b.next;
    lines = nl ∙ b.lines;
    names = nn ∙ (λ i. b.names i ++ sym e i ∷ []) ∙ sym (map-append (λ (x : ArgText). x.name) args (a ∷ []));
  },
  record {
    few = rw count (omega (arith, few));
    room = rw (next, count, nl) (room-more (length old.lines) old.fresh.count old.fresh.next h.room);
    short = rw nl h.short;
    named =
        let len : length new.names ≡ length old.names + 1 = ap length nn ∙ length-append old.names (n ∷ []) in
        rw nl (Each-more (IsNamedLine (length old.names)) (IsNamedLine (length new.names)) old.lines (named-more (length old.names) (length new.names) (omega (arith, len))) h.named);
  },
)

-- ---- one more

module _ (old new : Lines) (i : Inst) (h : LinesHaveRoom old) (w : InstWithin (values_alone (length old.names)) i) (d : length old.lines ≡ most_lines → ⊥) where
  pub gives-one : (v : ValueId) (n : List ℕ) → v.0 ≡ length old.names → new.names ≡ old.names ++ n ∷ [] → new.lines ≡ old.lines ++ record { result = Some v; inst = i } ∷ [] →
      ((args : List ArgText) → IsFresh args old.fresh → n ≡ value_name (free_number args old.fresh.next)) →
      ((args : List ArgText) → IsFresh args old.fresh → new.fresh.next ≡ free_number args old.fresh.next + 1) →
      ((args : List ArgText) → IsFresh args old.fresh → IsFresh args new.fresh) →
      new.fresh.count ≡ old.fresh.count → new.fresh.next ≤ old.fresh.next + old.fresh.count + 1 → GivesValue old i new v
  gives-one v n vn nn nl name next fresh count near =
      let names2 : List (List ℕ) = old.names ++ n ∷ [] in
      let line : BodyLine = record { result = Some v; inst = i } in
      let last : slice_index_or names2 v.0 [] ≡ n = ap (λ k. slice_index_or names2 k []) vn ∙ get_or-append_seam old.names n [] [] in
      let inst : inst_text (naming names2) i ≡ inst_text (naming old.names) i = inst-same (values_alone (length old.names)) (naming names2) (naming old.names) (more-agree old.names (n ∷ [])) i w in
      let before : map (line_text names2) old.lines ≡ map (line_text old.names) old.lines =
      map-each (IsNamedLine (length old.names)) (line_text names2) (line_text old.names) old.lines (line-kept old.names (n ∷ [])) h.named in
      let len : length names2 ≡ length old.names + 1 = length-append old.names (n ∷ []) in
      let lines_len : length new.lines ≡ length old.lines + 1 = ap length nl ∙ length-append old.lines (line ∷ []) in
      let all : map (line_text new.names) new.lines ≡ map (line_text old.names) old.lines ++ line_text names2 line ∷ [] =
      (λ j. map (line_text (nn j)) (nl j)) ∙ map-append (line_text names2) old.lines (line ∷ []) ∙ ap (λ xs. xs ++ line_text names2 line ∷ []) before in
      let named2 : Each (IsNamedLine (length names2)) (old.lines ++ line ∷ []) =
      Each-append (IsNamedLine (length names2)) old.lines (line ∷ [])
      (Each-more (IsNamedLine (length old.names)) (IsNamedLine (length names2)) old.lines (named-more (length old.names) (length names2) (omega (arith, len))) h.named)
      ((omega (arith, vn, len), InstWithin-more (values_alone (length old.names)) (values_alone (length names2)) i (omega arith) (omega (arith, len)) (omega arith) w), tt) in (
        λ s e y.
            let m : n ≡ next_name s e = name s.args y.fresh ∙ ap (λ k. value_name (free_number s.args k)) y.next in
            let text : line_text names2 line ≡ record { result = Some (next_name s e); inst = inst_text (naming old.names) i } = λ j. record { result = Some ((last ∙ m) j); inst = inst j } in (
              record {
                fresh = fresh s.args y.fresh;
                next = next s.args y.fresh ∙ ap (λ k. free_number s.args k + 1) y.next;
                lines = all ∙ (λ j. y.lines j ++ text j ∷ []);
                names = nn ∙ (λ j. y.names j ++ m j ∷ []) ∙ names-more (arg_names s.args) e.lines record { result = Some (next_name s e); inst = inst_text (naming old.names) i };
              },
              ap (λ ns. slice_index_or ns v.0 []) nn ∙ last ∙ m,
            ),
        subst (λ (ns : List (List ℕ)). v.0 < length ns) (sym nn) (omega (arith, vn, len)),
        (n ∷ [], nn),
        record {
          few = rw count h.few;
          room = rw count (room-next (length new.lines) (length old.lines) old.fresh.count old.fresh.next new.fresh.next h.room near lines_len);
          short = rw lines_len (short-next (length old.lines) most_lines h.short d);
          named = subst (λ (ns : List (List ℕ)). Each (IsNamedLine (length ns)) new.lines) (sym nn) (subst (Each (IsNamedLine (length names2))) (sym nl) named2);
        },
      )

  pub gives-named : (mid : Lines) (v : ValueId) → NamesNext old mid v → new.lines ≡ with_line mid.lines (Some v) i → new.names ≡ mid.names → new.fresh ≡ mid.fresh → GivesValue old i new v
  gives-named mid v n nl nn nf =
      gives-one v n.name n.id (nn ∙ n.names) (nl ∙ ap (λ ls. with_line ls (Some v) i) n.lines) n.named (λ args f. ap (λ (x : Fresh). x.next) nf ∙ n.next args f)
      (λ args f. subst (IsFresh args) (sym nf) (n.fresh args f)) (ap (λ (x : Fresh). x.count) nf ∙ n.count) (rw nf n.near)

  pub puts-one : new.names ≡ old.names → new.lines ≡ old.lines ++ record { result = None; inst = i } ∷ [] → new.fresh ≡ old.fresh → PutsOne old i new (Ok tt)
  puts-one nn nl nf =
      let line : BodyLine = record { result = None; inst = i } in
      let lines_len : length new.lines ≡ length old.lines + 1 = ap length nl ∙ length-append old.lines (line ∷ []) in
      let count : new.fresh.count ≡ old.fresh.count = ap (λ (f : Fresh). f.count) nf in
      let near : new.fresh.next ≤ old.fresh.next + old.fresh.count + 1 = rw nf (omega arith) in
      let all : map (line_text new.names) new.lines ≡ map (line_text old.names) old.lines ++ line_text old.names line ∷ [] =
      (λ j. map (line_text (nn j)) (nl j)) ∙ map-append (line_text old.names) old.lines (line ∷ []) in
      let named2 : Each (IsNamedLine (length old.names)) (old.lines ++ line ∷ []) = Each-append (IsNamedLine (length old.names)) old.lines (line ∷ []) h.named ((tt, w), tt) in (
        λ s e y. record {
          fresh = subst (IsFresh s.args) (sym nf) y.fresh;
          next = ap (λ (f : Fresh). f.next) nf ∙ y.next;
          lines = all ∙ ap (λ xs. xs ++ line_text old.names line ∷ []) y.lines;
          names = nn ∙ y.names ∙ sym (append-nil _) ∙ names-more (arg_names s.args) e.lines record { result = None; inst = inst_text (naming old.names) i };
        },
        nn,
        record {
          few = rw count h.few;
          room = rw count (room-next (length new.lines) (length old.lines) old.fresh.count old.fresh.next new.fresh.next h.room near lines_len);
          short = rw lines_len (short-next (length old.lines) most_lines h.short d);
          named = subst (λ (ns : List (List ℕ)). Each (IsNamedLine (length ns)) new.lines) (sym nn) (subst (Each (IsNamedLine (length old.names))) (sym nl) named2);
        },
      )
