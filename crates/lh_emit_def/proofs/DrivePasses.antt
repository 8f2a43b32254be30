-- A pass of an entity of drives gives the wish of the drives.
use Rattle.std.proofs.Common.{◌≡◌, ℕ, zero, suc, ◌+◌, Bool, true, false, ◌&&◌, if◌then◌else◌, nat_eq, List, [], ◌∷◌, ◌++◌, length, Some, None, unwrap_or, refl, ap, sym, ◌∙◌, subst, arith, length-append}
use Rattle.std.specs.List.{list_all}
use Rattle.std.specs.Option.{option_and_then}
use Rattle.lh_time.specs.declared.Instant.{Instant}
use Rattle.lh_types.specs.Types.{int_type}
use Rattle.lh_types.specs.Bits.{value_bits}
use Rattle.lh_types.specs.Fits.{FitsType}
use Rattle.lh_types.specs.declared.part.Range.{Range}
use Rattle.lh_types.specs.Wish.{Wish, with_drive}
use Rattle.lh_types.specs.Values.{Datum, int_value, time_value, array_value, tuple_value}
use Rattle.lh_types.specs.Same.{and_both}
use Rattle.lh_unit.specs.Contents.{InstText, LineText, UnitText}
use Rattle.lh_unit.specs.Held.{Env, as_part, as_test, as_delay, delay_at, part_at}
use Rattle.lh_unit.specs.Effects.{condition_at, drive_due, drive_when, driven}
use Rattle.lh_unit.specs.Pass.{Passed, passes}
use Rattle.lh_unit.specs.Within.{Each}
use Rattle.lh_unit.proofs.Lists.{nat_eq-is}
use Rattle.lh_unit.proofs.ById.{line_giving-later}
use Rattle.lh_term.specs.Tree.{Tree, constant, past_of, now_of, operation, choice_of}
use Rattle.lh_term.specs.Types.{IsTyped, type_of}
use Rattle.lh_term.proofs.TermTypes.{mean_fits}
use Rattle.lh_term.specs.Make.{is_bit}
use Rattle.lh_term.specs.declared.part.Part.{Part}
use Rattle.lh_emit_def.specs.Given.{Drive}
use Rattle.lh_emit_def.specs.Names.{value_name}
use Rattle.lh_emit_def.specs.Emitted.{Emitted, puts, term_name, part_name, signal}
use Rattle.lh_emit_def.specs.Needs.{need}
use Rattle.lh_emit_def.specs.Entities.{need_cond, cond_name, need_drive, emit_drive, emit_drives, emit_probes, choices_fit, drive_fits}
use Rattle.lh_emit_def.specs.Reads.{range_in, reads, is_one, due_by, with_row, with_rows}
use Rattle.lh_emit_def.specs.Ways.{IsReached, TermIsGiven, DriveIsGiven, WaitIsGiven}
use Rattle.lh_emit_def.proofs.ComputedTerms.{value}
use Rattle.lh_emit_def.proofs.Induction.{IsNamed, IsNamedPart, Kept, kept-same}
use Rattle.lh_emit_def.proofs.NeedLaws.{need-needed, part-needed}
use Rattle.lh_emit_def.proofs.PassState.{Frame, HasFewArgs, source, start, after, Begins, Means, Inv, begins-before, pass_from-then}
use Rattle.lh_emit_def.proofs.KeptByNeed.{reads-fit, keeps, term-held, part-held}

-- the constant 1
pub one-is : (c : Tree) → is_bit 1 c ≡ true → c ≡ constant (int_value 1 1)
one-is (constant (int_value n a)) h = let b = and_both (nat_eq n 1) (nat_eq a 1) h in let p : n ≡ 1 = nat_eq-is n 1 b.0 in let q : a ≡ 1 = nat_eq-is a 1 b.1 in λ i. constant (int_value (p i) (q i))
one-is (constant _) h = absurd cc
one-is (past_of p) h = absurd cc
one-is (now_of p) h = absurd cc
one-is (operation op ts) h = absurd cc
one-is (choice_of c f t) h = absurd cc

-- a drive after a delay
pub due-row : (t : Instant) (w : Wish) (r : Range) (v d : Datum) → unwrap_or (drive_due t w (Some r) (Some v) (as_delay d)) w ≡ with_drive w (due_by t d) r.lo (value_bits v)
due-row t w r v (time_value d) = refl
due-row t w r v (int_value n a) = refl
due-row t w r v (array_value vs) = refl
due-row t w r v (tuple_value vs) = refl

-- a drive under a condition
drive-row : (t : Instant) (w : Wish) (r : Range) (c v d : Datum) → FitsType c (int_type 1) →
    unwrap_or (drive_when (as_test c) w (drive_due t w (Some r) (Some v) (as_delay d))) w ≡ (if is_one c then with_drive w (due_by t d) r.lo (value_bits v) else w)
drive-row t w r (int_value n zero) v d h = refl
drive-row t w r (int_value n (suc zero)) v d h = due-row t w r v d
drive-row t w r (int_value n (suc (suc a))) v d h = absurd (omega (arith, h.1))
drive-row t w r (time_value _) v d h = absurd h
drive-row t w r (array_value _) v d h = absurd h
drive-row t w r (tuple_value _) v d h = absurd h

-- a condition that is needed has a name
abbrev pub CondNamed : Emitted → Tree → Type 0
CondNamed e c = is_bit 1 c ≡ false → IsNamed e c

module _ (f : Frame) (few : HasFewArgs f.unit) where
  -- ---- an instruction that gives no value

  module _ (w x : Wish) (ts us : List Bool) (y : UnitText) (e : Emitted) (i : InstText) (b : Begins f few y (puts i e).lines) (m : Means f few w ts y e) where
    pub puts-means : passes y f.now f.memory f.at i None (after f few y e.lines) ≡ record { held = (after f few y e.lines).held; seen = us; wish = x } → Means f few x us y (puts i e)
    puts-means g =
        let line : LineText = record { result = None; inst = i } in
        let passed : after f few y (e.lines ++ line ∷ []) ≡ record { held = (after f few y e.lines).held; seen = us; wish = x } = pass_from-then y f.now f.memory f.at e.lines (line ∷ []) (start f few)
        ∙ g in
        let on = λ (n : List ℕ). ap (λ (q : Passed). q.held n) passed in
        let q : length (e.lines ++ line ∷ []) ≡ length e.lines + 1 = length-append e.lines (line ∷ []) in
        record {
          wish = ap (λ (z : Passed). z.wish) passed;
          seen = ap (λ (z : Passed). z.seen) passed;
          terms = λ t n p. on n ∙ m.terms t n p;
          parts = λ p n h. let z = m.parts p n h in record { held = on n ∙ z.held; type = z.type };
          args = λ k a t p s. let z = m.args k a t p s in record { held = on a.name ∙ z.held; type = z.type };
          new = λ j a. let z = m.new j a in record { held = on (value_name j) ∙ z.held; given = line_giving-later (value_name j) e.lines (line ∷ []) z.given };
          room = rw q (omega (arith, m.room));
        }

  module _ (w : Wish) (ts : List Bool) (y : UnitText) (e : Emitted) (m : Means f few w ts y e) where
    abbrev held : Env
    held = (after f few y e.lines).held

    pub cond-held : (c : Tree) → CondNamed e c → condition_at held (cond_name e c) ≡ as_test (value (reads f.args f.now) c)
    cond-held c n = at (is_bit 1 c) refl
      where
        at : (b : Bool) → is_bit 1 c ≡ b → condition_at held (cond_name e c) ≡ as_test (value (reads f.args f.now) c)
        at true q = rw q (sym (ap (λ z. as_test (value (reads f.args f.now) z)) (one-is c q)))
        at false q = rw q (ap (option_and_then as_test) (term-held f few w ts y e m c (n q)))

    -- a `drv` gives the wish with its drive
    pub drive-gives : (d : Drive) → IsTyped d.cond → type_of d.cond ≡ int_type 1 → IsNamed e d.value → IsNamed e d.delay → CondNamed e d.cond → IsNamedPart e d.part →
        unwrap_or (driven f.at held w (signal e d.part) (term_name e d.value) (term_name e d.delay) (cond_name e d.cond)) w
        ≡ with_row (reads f.args f.now) (reads f.args f.now) f.args f.at w d
    drive-gives d typed is_bit v l c p =
        let a : part_at held (part_name e d.part) ≡ Some (range_in f.args d.part) = ap (option_and_then as_part) (part-held f few w ts y e m d.part p).held in
        let b = term-held f few w ts y e m d.value v in
        let g : delay_at held (term_name e d.delay) ≡ as_delay (value (reads f.args f.now) d.delay) = ap (option_and_then as_delay) (term-held f few w ts y e m d.delay l) in
        let h = cond-held d.cond c in
        let z : FitsType (value (reads f.args f.now) d.cond) (int_type 1) =
        subst (FitsType (value (reads f.args f.now) d.cond)) is_bit (mean_fits (reads f.args f.now) (reads f.args f.now) (reads-fit f few) (reads-fit f few) d.cond typed) in
        (λ i. unwrap_or (drive_when (h i) w (drive_due f.at w (a i) (b i) (g i))) w)
        ∙ drive-row f.at w (range_in f.args d.part) (value (reads f.args f.now) d.cond) (value (reads f.args f.now) d.value) (value (reads f.args f.now) d.delay) z

  module _ (w : Wish) (ts : List Bool) where
    -- need of a condition
    pub cond-needed : (c : Tree) → TermIsGiven (source f few) c → choices_fit c ≡ true → (e : Emitted) → Inv f few w ts e →
        (Inv f few w ts (need_cond (source f few) c e)) × CondNamed (need_cond (source f few) c e) c × Kept e (need_cond (source f few) c e)
    cond-needed c g h e inv = at (is_bit 1 c) refl
      where
        at : (b : Bool) → is_bit 1 c ≡ b →
            (Inv f few w ts (if b then e else need (source f few) c e)) × CondNamed (if b then e else need (source f few) c e) c × Kept e (if b then e else need (source f few) c e)
        at true q = (inv, (λ n. let z : true ≡ false = sym q ∙ n in absurd cc), kept-same e)
        at false q = let n = need-needed (source f few) (IsReached (source f few)) (λ p r. r) (Inv f few w ts) (keeps f few w ts) c g.typed h g.parts e inv in (n.inv, (λ z. n.named), n.kept)

    -- a drive is emitted
    pub drive-emitted : (d : Drive) → DriveIsGiven (source f few) d → drive_fits d ≡ true → (e : Emitted) → Inv f few w ts e →
        Inv f few (with_row (reads f.args f.now) (reads f.args f.now) f.args f.at w d) ts (emit_drive (source f few) e d)
    drive-emitted d g h e inv =
        let s = source f few in
        let b = and_both (choices_fit d.value) (choices_fit d.delay && choices_fit d.cond) h in
        let c = and_both (choices_fit d.delay) (choices_fit d.cond) b.1 in
        let k = keeps f few w ts in
        let n1 = need-needed s (IsReached s) (λ p r. r) (Inv f few w ts) k d.value g.value.typed b.0 g.value.parts e inv in
        let n2 = need-needed s (IsReached s) (λ p r. r) (Inv f few w ts) k d.delay g.delay.typed c.0 g.delay.parts (need s d.value e) n1.inv in
        let n3 = cond-needed d.cond g.cond c.1 (need s d.delay (need s d.value e)) n2.inv in
        let n4 = part-needed s (IsReached s) (λ p r. r) (Inv f few w ts) k d.part g.part (need_cond s d.cond (need s d.delay (need s d.value e))) n3.0 in
        let x : Emitted = need_drive s d e in
        let v : IsNamed x d.value = n4.kept.terms d.value (n3.2.terms d.value (n2.kept.terms d.value n1.named)) in
        let l : IsNamed x d.delay = n4.kept.terms d.delay (n3.2.terms d.delay n2.named) in
        let q : CondNamed x d.cond = λ z. n4.kept.terms d.cond (n3.1 z) in
        λ y a.
        let m = n4.inv y (begins-before f few y x.lines _ a) in
        puts-means w (with_row (reads f.args f.now) (reads f.args f.now) f.args f.at w d) ts ts y x _ a m
        (let p = m.wish in let o = m.seen in let z = drive-gives w ts y x m d g.cond.typed g.is_condition v l q n4.named in
        (λ i. record {
          held = (after f few y x.lines).held;
          seen = o i;
          wish = unwrap_or (driven f.at (after f few y x.lines).held (p i) (signal x d.part) (term_name x d.value) (term_name x d.delay) (cond_name x d.cond)) (p i);
        })
        ∙ (λ i. record { held = (after f few y x.lines).held; seen = ts; wish = z i }))

  -- drives are emitted, one after the other
  pub drives-emitted : (ds : List Drive) → Each (DriveIsGiven (source f few)) ds → list_all drive_fits ds ≡ true → (w : Wish) (ts : List Bool) (e : Emitted) → Inv f few w ts e →
      Inv f few (with_rows (reads f.args f.now) (reads f.args f.now) f.args f.at w ds) ts (emit_drives (source f few) ds e)
  drives-emitted [] g h w ts e inv = inv
  drives-emitted (d ∷ ds) g h w ts e inv =
      let b = and_both (drive_fits d) (list_all drive_fits ds) h in
      drives-emitted ds g.1 b.1 (with_row (reads f.args f.now) (reads f.args f.now) f.args f.at w d) ts (emit_drive (source f few) e d) (drive-emitted w ts d g.0 b.0 e inv)

  -- probes are emitted
  pub probes-emitted : (ps : List Part) → Each (WaitIsGiven (source f few)) ps → (w : Wish) (ts : List Bool) (e : Emitted) → Inv f few w ts e → Inv f few w ts (emit_probes (source f few) ps e)
  probes-emitted [] g w ts e inv = inv
  probes-emitted (p ∷ ps) g w ts e inv =
      let n = need-needed (source f few) (IsReached (source f few)) (λ p r. r) (Inv f few w ts) (keeps f few w ts) (now_of p) g.0.is_data refl g.0.part e inv in
      probes-emitted ps g.1 w ts (need (source f few) (now_of p) e) n.inv
