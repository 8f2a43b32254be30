-- A value that is what a `prb` of an argument gives, or that compares two such ones, by ids: where it stands in the signals.
use Rattle.std.proofs.Common.{◌≡◌, ℕ, zero, suc, ◌+◌, ◌<◌, ◌≤◌, inl, inr, List, [], ◌∷◌, length, get_or, set, replicate, map, take, drop, Bool, true, false, ◌&&◌, nat_eq, if◌then◌else◌, ◌||◌, Option, Some, None, IsSome, refl, ap, sym, ◌∙◌, subst, arith, eq-eqb}
use Rattle.std.specs.Prelude.{slice_get}
use Rattle.std.specs.Option.{option_map, option_and_then, IfSome}
use Rattle.std.proofs.lemmas.Bool.{cases_eq}
use Rattle.std.proofs.lemmas.List.{append-nil, length-set, length-replicate, get_or-set_same, get_or-set_other}
use Rattle.std.proofs.lemmas.Option.{same_Some, none-some, slice_get_within}
use Rattle.std.proofs.Math.Bool.{or-true}
use Rattle.lh_types.specs.Types.{TypeTree, int_type}
use Rattle.lh_types.specs.Values.{int_value}
use Rattle.lh_types.specs.Bits.{bits_number}
use Rattle.lh_types.specs.Parts.{bits_within}
use Rattle.lh_types.specs.declared.op.Op.TheVariants as op
use Rattle.lh_types.specs.declared.part.Range.{Range}
use Rattle.lh_unit.specs.Contents.{LineText, UnitText, args_define}
use Rattle.lh_unit_names.specs.Names.{same_name}
use Rattle.lh_unit.specs.Typing.{line_giving, carried}
use Rattle.lh_unit.specs.Held.{Held, Env, datum_held, part_held, as_part, part_at, as_test}
use Rattle.lh_unit.specs.Effects.{read_bits}
use Rattle.lh_unit.specs.Hierarchy.{lines_of, parts_of}
use Rattle.lh_unit.specs.Naming.{Naming, value_text, maybe_text, operand_text, arg_text, inst_text}
use Rattle.lh_unit.specs.Table.{Table, IsDefinition, line_at, insts_at, ids_from, flat}
use Rattle.lh_unit.specs.Within.{Each}
use Rattle.lh_unit.specs.WellFormed.{IsWellFormed}
use Rattle.lh_unit.specs.Arena.{Arena, IsArena, unit_count, kind_at, contents, table_at, naming, unit_text_at, block_insts_at, inst_at, inst_count, value_count}
use Rattle.lh_unit.specs.declared.inst.UnitKind.{UnitKind}
use Rattle.lh_unit.specs.declared.inst.UnitKind.TheVariants as kind
use Rattle.lh_unit.specs.declared.inst.ValueDef.TheVariants as value_def
use Rattle.lh_unit.specs.declared.inst.Inst.TheVariants as inst
use Rattle.lh_unit.specs.declared.inst.InstId.{InstId}
use Rattle.lh_unit.specs.declared.inst.ValueId.{ValueId}
use Rattle.lh_unit.specs.declared.inst.BlockId.{BlockId}
use Rattle.lh_unit.specs.declared.inst.Typed.{Typed}
use Rattle.lh_unit.specs.declared.inst.Arg.{Arg}
use Rattle.lh_unit.specs.declared.table.TableLine.{TableLine}
use Rattle.lh_unit.specs.ById.{is_sig}
use Rattle.lh_unit.proofs.DefinitionsGive.{same-argument}
use Rattle.lh_unit_names.proofs.NameLists.{same_name-refl}
use Rattle.lh_eval.specs.Holding.{Holds, slot_at}
use Rattle.lh_eval.proofs.BeginSteps.{entity-blocks, entity-lines, entity-insts, begun}
use Rattle.lh_eval.specs.Beginning.{args_given, signals_given, next_given}
use Rattle.lh_eval_laws.proofs.FitLaws.{unit-is-sound}
use Rattle.lh_eval_laws.proofs.NamedOnce.{IsFirst, each-first}
use Rattle.lh_react.specs.Standing.{line_in}
use Rattle.lh_react.specs.Quiet.{test_of, IsProbedInt, AreCompared}
use Rattle.lh_react.specs.TriggerBits.{number_at, LiesIn, IsBitAt, IsIntAt, IsSameAt, AreSameAt}

-- one bit of some
one-bit : (bs : List Bool) (lo : ℕ) (b : Bool) → slice_get bs lo ≡ Some b → take 1 (drop lo bs) ≡ b ∷ []
one-bit [] lo b e = absurd (none-some b e)
one-bit (x ∷ bs) zero b e = ap (λ y. y ∷ []) (same_Some x b e)
one-bit (x ∷ bs) (suc lo) b e = one-bit bs lo b e

tested : (bs : List Bool) (b : Bool) → bs ≡ b ∷ [] → as_test (int_value 1 (bits_number bs)) ≡ Some b
tested bs true e = ap (λ x. as_test (int_value 1 (bits_number x))) e
tested bs false e = ap (λ x. as_test (int_value 1 (bits_number x))) e

-- the integer of a part
take-again : (w : ℕ) (bs : List Bool) → take w (take w bs) ≡ take w bs
take-again zero bs = refl
take-again (suc w) [] = refl
take-again (suc w) (x ∷ bs) = ap (λ ys. x ∷ ys) (take-again w bs)

pub int-of-part : (now : List Bool) (r : Range) (w n : ℕ) → r.len ≡ w → n ≡ bits_number (bits_within r.lo w now)
    → read_bits now (Some (int_type w)) (Some r) ≡ Some (datum_held (int_value w n))
int-of-part now r w n long is =
    ap (λ k. Some (datum_held (int_value w (bits_number (take w (bits_within r.lo k now)))))) long ∙ ap (λ bs. Some (datum_held (int_value w (bits_number bs))))
    (take-again w (drop r.lo now)) ∙ ap (λ k. Some (datum_held (int_value w k))) (sym is)

-- an argument is defined
arg-defined : (f : Naming) (args : List Arg) (k : ℕ) (v : ValueId) → option_map (λ (a : Arg). a.value) (slice_get args k) ≡ Some v
    → args_define (value_text f v) (map (arg_text f) args) ≡ true
arg-defined f [] k v e = absurd (none-some v e)
arg-defined f (a ∷ args) zero v e =
    let same : a.value ≡ v = same_Some a.value v e in
    subst (λ (x : ValueId). args_define (value_text f x) (map (arg_text f) (a ∷ args)) ≡ true) same
    (ap (λ b. b || args_define (value_text f a.value) (map (arg_text f) args)) (same_name-refl (value_text f a.value)))
arg-defined f (a ∷ args) (suc k) v e = let x = same_name (value_text f a.value) (value_text f v) in ap (λ b. x || b) (arg-defined f args k v e) ∙ or-true x

-- what holds of each line holds of that of each id
each-id : (P : LineText → Type 0) (f : InstId → LineText) (ls : List TableLine) (k j : ℕ) → Each P (map f (ids_from k ls)) → k ≤ j → j < k + length ls
    → P (f (record { 0 = j }))
each-id P f [] k j e low high = absurd (omega arith)
each-id P f (l ∷ ls) k j e low high =
    elim (cases_eq k j) [ inl s ↦ subst (λ n. P (f (record { 0 = n }))) s e.0 | inr other ↦ each-id P f ls (k + 1) j e.1 (omega arith) (omega arith) ]

args-keep : (xs : List Arg) (rs : List Range) (slots : List (Option Held)) (v : ValueId)
    → ((j : ℕ) → j < length xs → option_map (λ (x : Arg). x.value) (slice_get xs j) ≡ Some v → ⊥)
    → get_or (args_given xs rs slots) v.0 None ≡ get_or slots v.0 None
args-keep [] rs slots v h = refl
args-keep (x ∷ xs) [] slots v h = refl
args-keep (x ∷ xs) (r ∷ rs) slots v h =
    let other : v.0 ≡ x.value.0 → ⊥ = λ e. h 0 (omega arith) (ap (λ (n : ℕ). Some (record { 0 = n })) (sym e)) in
    args-keep xs rs (set slots x.value.0 (Some (part_held r))) v (λ j l e. h (suc j) (omega arith) e)
    ∙ get_or-set_other slots x.value.0 v.0 (Some (part_held r)) None other

-- the slot of an argument
args-slot : (xs : List Arg) (rs : List Range) (slots : List (Option Held)) (v : ValueId) (k : ℕ) (d : Range)
    → option_map (λ (x : Arg). x.value) (slice_get xs k) ≡ Some v
    → ((j : ℕ) → j < length xs → option_map (λ (x : Arg). x.value) (slice_get xs j) ≡ Some v → j ≡ k)
    → k < length rs → v.0 < length slots → get_or (args_given xs rs slots) v.0 None ≡ Some (part_held (get_or rs k d))
args-slot [] rs slots v k d e once l w = absurd (none-some v e)
args-slot (x ∷ xs) [] slots v k d e once l w = absurd (omega arith)
args-slot (x ∷ xs) (r ∷ rs) slots v zero d e once l w =
    let at : x.value.0 ≡ v.0 = ap (λ (y : ValueId). y.0) (same_Some x.value v e) in
    args-keep xs rs (set slots x.value.0 (Some (part_held r))) v (λ j m q. let z : suc j ≡ 0 = once (suc j) (omega arith) q in absurd (omega arith))
    ∙ ap (λ n. get_or (set slots n (Some (part_held r))) v.0 None) at ∙ get_or-set_same slots v.0 (Some (part_held r)) None w
args-slot (x ∷ xs) (r ∷ rs) slots v (suc k) d e once l w =
    args-slot xs rs (set slots x.value.0 (Some (part_held r))) v k d e (λ j m q. let z : suc j ≡ suc k = once (suc j) (omega arith) q in omega arith)
    (omega arith) (omega (arith, length-set slots x.value.0 (Some (part_held r))))

next-keep : (n : Option ValueId) (rs : List Range) (slots : List (Option Held)) (others : List Range → List (Option Held) → List (Option Held)) (v : ValueId)
    → (n ≡ Some v → ⊥) → ((ps : List Range) (ss : List (Option Held)) → get_or (others ps ss) v.0 None ≡ get_or ss v.0 None)
    → get_or (next_given n rs slots others) v.0 None ≡ get_or slots v.0 None
next-keep n [] slots others v h go = refl
next-keep None (r ∷ rs) slots others v h go = go rs slots
next-keep (Some w) (r ∷ rs) slots others v h go =
    let other : v.0 ≡ w.0 → ⊥ = λ e. h (ap (λ (n : ℕ). Some (record { 0 = n })) (sym e)) in
    go rs (set slots w.0 (Some (part_held r))) ∙ get_or-set_other slots w.0 v.0 (Some (part_held r)) None other

one-kept : (b : Bool) (n : Option ValueId) (rs : List Range) (slots : List (Option Held)) (others : List Range → List (Option Held) → List (Option Held))
    (v : ValueId) → (n ≡ Some v → ⊥) → ((ps : List Range) (ss : List (Option Held)) → get_or (others ps ss) v.0 None ≡ get_or ss v.0 None)
    → get_or (if b then next_given n rs slots others else others rs slots) v.0 None ≡ get_or slots v.0 None
one-kept true n rs slots others v h go = next-keep n rs slots others v h go
one-kept false n rs slots others v h go = go rs slots

-- signals leave the slot of another value
signals-keep : (t : Table) (is : List InstId) (rs : List Range) (slots : List (Option Held)) (v : ValueId) → Each (λ (i : InstId). i.0 < length t.lines) is
    → ((i : InstId) → i.0 < length t.lines → (line_at t i.0).result ≡ Some v → ⊥)
    → get_or (signals_given t is rs slots) v.0 None ≡ get_or slots v.0 None
signals-keep t [] rs slots v e h = refl
signals-keep t (i ∷ more) rs slots v e h = one-kept (is_sig (line_at t i.0).inst) (line_at t i.0).result rs slots (signals_given t more) v (h i e.0)
    (λ ps ss. signals-keep t more ps ss v e.1 h)

fresh-long : (n : ℕ) → length (replicate {A = Option Held} n None) ≡ n
fresh-long n = length-replicate n None

no-instruction : (i : ℕ) (x : InstId) → value_def.Arg i ≡ value_def.Inst x → ⊥
no-instruction i x e = absurd cc

two-items : (xs : List Typed) (c d : Typed) → length xs ≡ 2 → xs ≡ get_or xs 0 c ∷ get_or xs 1 d ∷ []
two-items [] c d e = absurd (omega arith)
two-items (x ∷ []) c d e = absurd (omega arith)
two-items (x ∷ y ∷ []) c d e = refl
two-items (x ∷ y ∷ z ∷ xs) c d e = absurd (omega arith)

-- two operands that are compared
pub are-compared : (a : Arena) (u : ℕ) (now : List Bool) (e : Env) (xs : List Typed) (c d : Typed) (l r : ℕ × ℕ) (b : Bool) → length xs ≡ 2
    → IsProbedInt (unit_text_at a u) now e (value_text (naming a u) (get_or xs 0 c).value) l.0 l.1
    → IsProbedInt (unit_text_at a u) now e (value_text (naming a u) (get_or xs 1 d).value) r.0 r.1 → b ≡ (nat_eq l.0 r.0 && nat_eq l.1 r.1)
    → AreCompared (unit_text_at a u) now e (map (operand_text (naming a u)) xs) b
are-compared a u now e xs c d l r b two left right same = record {
  left = operand_text (naming a u) (get_or xs 0 c);
  right = operand_text (naming a u) (get_or xs 1 d);
  both = ap (map (operand_text (naming a u))) (two-items xs c d two);
  left_width = l.0;
  left_bits = l.1;
  right_width = r.0;
  right_bits = r.1;
  is_left = left;
  is_right = right;
  same = same;
}

-- the same of the parts that they are
pub are-same-at : (a : Arena) (u : ℕ) (args : List Range) (xs : List Typed) (c d : Typed) (l r : Range) → length xs ≡ 2
    → IsIntAt (unit_text_at a u) args (value_text (naming a u) (get_or xs 0 c).value) l
    → IsIntAt (unit_text_at a u) args (value_text (naming a u) (get_or xs 1 d).value) r → l.len ≡ r.len
    → AreSameAt (unit_text_at a u) args (map (operand_text (naming a u)) xs) l r
are-same-at a u args xs c d l r two left right long = λ now e p q h.
    are-compared a u now e xs c d (l.len, number_at now l) (r.len, number_at now r) (nat_eq (number_at now l) (number_at now r)) two (left now e p h)
    (right now e q h)
    (sym (ap (λ (b : Bool). b && nat_eq (number_at now l) (number_at now r)) (eq-eqb l.len r.len long)))

-- an integer of one bit, as a truth value
pub bit-at : (u : UnitText) (args : List Range) (n : List ℕ) (r : Range) → r.len ≡ 1 → IsIntAt u args n r → IsBitAt u args n r.lo
bit-at u args n r one int = λ now e b at h.
    let within : LiesIn now r = omega (arith, one, slice_get_within now r.lo b at) in
    let x : IsProbedInt u now e n r.len (number_at now r) = int now e within h in
    record {
      signal = x.signal;
      probe = x.probe;
      bit = ap test_of x.int
          ∙ tested (bits_within r.lo r.len now) b (ap (λ k. take k (drop r.lo now)) one ∙ one-bit now r.lo b at);
    }

module _ (a : Arena) (u : ℕ) (o : IsArena a) (h : u < unit_count a) (k : kind_at a u ≡ Some kind.Entity) (g : IsWellFormed (contents a)) where
  abbrev here : UnitText
  here = unit_text_at a u

  pub firsts : Each (IsFirst here.args (lines_of here.blocks)) (lines_of here.blocks)
  firsts =
      let defined : IsSome (kind_at a u) = subst (λ (x : Option UnitKind). IsSome x) (sym k) refl in
      each-first here.args (lines_of here.blocks) [] (lines_of here.blocks) refl (unit-is-sound a u o h g defined).printable.new_results

  -- the same of the instructions by ids
  pub firsts-of : (insts : List InstId) → insts ≡ block_insts_at a u 0 → Each (IsFirst here.args (lines_of here.blocks)) (map (line_in a u) insts)
  firsts-of insts e = subst (Each (IsFirst here.args (lines_of here.blocks))) (entity-lines a u o h k ∙ ap (map (line_in a u)) (sym e)) firsts

  pub all-within : (insts : List InstId) → insts ≡ block_insts_at a u 0 → Each (λ (i : InstId). i.0 < inst_count a u) insts
  all-within insts e = subst (Each (λ (i : InstId). i.0 < inst_count a u)) (sym e) (entity-insts a u o h k)

  all-insts : block_insts_at a u 0 ≡ ids_from 0 (table_at a u).lines
  all-insts =
      sym (append-nil (block_insts_at a u 0))
      ∙ sym (ap (λ (bs : List BlockId). flat (map (λ (b : BlockId). insts_at (table_at a u) b.0) bs)) (entity-blocks a u o h k)) ∙ (o.tables u h).in_order

  -- the line that gives a value
  gives : (n j : ℕ) → IsDefinition (table_at a u) n (value_def.Inst (record { 0 = j })) → line_giving (value_text (naming a u) (record { 0 = n }))
      (lines_of here.blocks) ≡ Some (line_in a u (record { 0 = j })).inst
  gives n j d =
      let lines : lines_of here.blocks ≡ map (line_in a u) (ids_from 0 (table_at a u).lines) = entity-lines a u o h k ∙ ap (map (line_in a u)) all-insts in
      let first : IsFirst here.args (lines_of here.blocks) (line_in a u (record { 0 = j })) =
      each-id (IsFirst here.args (lines_of here.blocks)) (line_in a u) (table_at a u).lines 0 j
      (subst (Each (IsFirst here.args (lines_of here.blocks))) lines firsts) (omega arith) (omega (arith, d.0)) in
      (first (value_text (naming a u) (record { 0 = n })) (ap (maybe_text (naming a u)) d.1)).1

  -- the part of an argument
  argument-part : (args sigs : List Range) (v : ValueId) (i : ℕ) (d : Range) → IsDefinition (table_at a u) v.0 (value_def.Arg i) → v.0 < value_count a u
      → i < length args → part_at (parts_of here args sigs) (value_text (naming a u) v) ≡ Some (get_or args i d)
  argument-part args sigs v i d arg within l =
      let t = table_at a u in
      let fresh : List (Option Held) = replicate (value_count a u) None in
      let once = (o.tables u h).defined_once v.0 in
      let long : v.0 < length fresh = omega (arith, within, fresh-long (value_count a u)) in
      let same : (j : ℕ) → j < length t.args → option_map (λ (x : Arg). x.value) (slice_get t.args j) ≡ Some v → j ≡ i =
      λ j in' e. same-argument j i (once (value_def.Arg j) (value_def.Arg i) (in', e) arg) in
      let held : Holds a u (signals_given t (block_insts_at a u 0) sigs (args_given t.args args fresh)) (parts_of here args sigs) =
      begun a u o h k args sigs _ refl in
      let kept : get_or (signals_given t (block_insts_at a u 0) sigs (args_given t.args args fresh)) v.0 None ≡ get_or (args_given t.args args fresh) v.0 None =
      signals-keep t (block_insts_at a u 0) sigs (args_given t.args args fresh) v (all-within (block_insts_at a u 0) refl)
      (λ x in' e. no-instruction i x (once (value_def.Arg i) (value_def.Inst x) arg (in', e))) in
      let all : slot_at (signals_given t (block_insts_at a u 0) sigs (args_given t.args args fresh)) v ≡ Some (part_held (get_or args i d)) = kept
      ∙ args-slot t.args args fresh v i d arg.1 same l long in
      ap (option_and_then as_part)
      (sym (held.each v
      (let m : v.0 < length (signals_given t (block_insts_at a u 0) sigs (args_given t.args args fresh)) = omega (arith, held.long, within) in m)) ∙ all)

  -- the integer that a probe of an argument gives
  probed-int : (args sigs : List Range) (now : List Bool) (v : ValueId) (j i : ℕ) (s : Typed) (d : Range) (w : ℕ) (r : ℕ × ℕ)
      → IsDefinition (table_at a u) v.0 (value_def.Inst (record { 0 = j })) → inst_at a u j ≡ inst.Prb s
      → IsDefinition (table_at a u) s.value.0 (value_def.Arg i) → s.value.0 < value_count a u → i < length args
      → option_and_then carried s.ty ≡ Some (int_type w) → read_bits now (Some (int_type w)) (Some (get_or args i d)) ≡ Some (datum_held (int_value r.0 r.1))
      → IsProbedInt here now (parts_of here args sigs) (value_text (naming a u) v) r.0 r.1
  probed-int args sigs now v j i s d w r def is arg within l ty int =
      let e : Env = parts_of here args sigs in
      record {
        signal = operand_text (naming a u) s;
        probe = record {
          given = gives v.0 j def ∙ ap (λ x. Some (inst_text (naming a u) x)) is;
          argument = arg-defined (naming a u) (table_at a u).args i s.value arg.1;
        };
        int = ap (λ (x : Option TypeTree). read_bits now x (part_at e (value_text (naming a u) s.value))) ty
            ∙ ap (λ (x : Option Range). read_bits now (Some (int_type w)) x) (argument-part args sigs s.value i d arg within l) ∙ int;
      }

  -- so it is the integer of the argument's part
  pub int-at : (args : List Range) (v : ValueId) (j i : ℕ) (s : Typed) (d : Range) (w : ℕ) → IsDefinition (table_at a u) v.0 (value_def.Inst (record { 0 = j }))
      → inst_at a u j ≡ inst.Prb s → IsDefinition (table_at a u) s.value.0 (value_def.Arg i) → s.value.0 < value_count a u
      → i < length args → option_and_then carried s.ty ≡ Some (int_type w) → (get_or args i d).len ≡ w
      → IsIntAt here args (value_text (naming a u) v) (get_or args i d)
  int-at args v j i s d w def is arg within l ty long = λ now e lies h.
      let r : Range = get_or args i d in
      let carries : option_and_then carried s.ty ≡ Some (int_type r.len) = ty ∙ ap (λ (n : ℕ). Some (int_type n)) (sym long) in
      let read : read_bits now (Some (int_type r.len)) (Some r) ≡ Some (datum_held (int_value r.len (number_at now r))) =
      int-of-part now r r.len (number_at now r) refl refl in
      subst (λ (x : Env). IsProbedInt here now x (value_text (naming a u) v) r.len (number_at now r)) (sym h.1)
      (probed-int args h.0 now v j i s d r.len (r.len, number_at now r) def is arg within l carries read)

  -- what compares two such ones
  pub same-at-on : (r : Option (Range × Range)) (args : List Range) (v : ValueId) (j : ℕ) (xs shown : List Typed)
      → IsDefinition (table_at a u) v.0 (value_def.Inst (record { 0 = j })) → inst_at a u j ≡ inst.Pure op.Eq xs → shown ≡ xs
      → IfSome r (λ (p : Range × Range). AreSameAt here args (map (operand_text (naming a u)) shown) p.0 p.1)
      → IfSome r (λ (p : Range × Range). IsSameAt here args (value_text (naming a u) v) p.0 p.1)
  same-at-on (Some p) args v j xs shown def is same h = λ now e left right g. record {
    operands = map (operand_text (naming a u)) xs;
    given = gives v.0 j def ∙ ap (λ x. Some (inst_text (naming a u) x)) is;
    compared = subst (λ (ys : List Typed). AreCompared here now e (map (operand_text (naming a u)) ys) (nat_eq (number_at now p.0) (number_at now p.1))) same
        (h now e left right g);
  }
  same-at-on None args v j xs shown def is same h = tt
