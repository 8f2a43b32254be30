-- Executing the instructions of a block where control is there: what is known is held, and the wish has the drives of the rows.
use Rattle.std.proofs.Common.{◌≡◌, ◌⊎◌, inl, inr, ⊎_elim, ℕ, ◌+◌, List, [], ◌∷◌, ◌++◌, map, Bool, true, false, ◌&&◌, nat_eq, Option, Some, None, refl, ap, sym, ◌∙◌, subst, arith}
use Rattle.std.specs.Bool.{if◌then◌else◌}
use Rattle.std.specs.Option.{option_and_then, option_map}
use Rattle.std.proofs.lemmas.Bool.{false≢true}
use Rattle.std.proofs.lemmas.Option.{none-some}
use Rattle.lh_time.specs.declared.Instant.{Instant}
use Rattle.lh_time.specs.declared.Delay.{Delay}
use Rattle.lh_time.specs.Due.{due_of}
use Rattle.lh_types.specs.Types.{TypeTree, time_type, signal_type, pointer_type, bit_count}
use Rattle.lh_types.specs.Values.{Datum, int_value, time_value, array_value, tuple_value}
use Rattle.lh_types.specs.Fits.{FitsType}
use Rattle.lh_types.specs.Bits.{value_bits, value_from_bits}
use Rattle.lh_types.specs.Apply.{apply}
use Rattle.lh_types.specs.Wish as wishes
use Rattle.lh_types.specs.Wish.{Wish}
use Rattle.lh_types.specs.declared.op.Op.{Op}
use Rattle.lh_types.specs.declared.part.Range.{Range}
use Rattle.lh_unit_names.specs.declared.name.UnitName.{UnitName}
use Rattle.lh_unit.specs.Contents.{OperandText, EdgeText, InstText, const_text, pure_text, var_text, ld_text, st_text, sig_text, prb_text, drv_text, reg_text, child_text, call_text, phi_text, br_text, branch_text, wait_text, halt_text, ret_text, LineText, UnitText}
use Rattle.lh_unit.specs.Named.{function_named}
use Rattle.lh_unit_names.specs.UnitNames.{is_assert}
use Rattle.lh_unit.specs.WellFormed.{assert_args}
use Rattle.lh_unit.specs.Effects as effects
use Rattle.lh_unit.specs.Effects.{step_of}
use Rattle.lh_unit.specs.Held.{Held, datum_held, cell_held, part_held, Env, as_datum, as_part, front, as_delay, as_test, datum_at, part_at, data_at, delay_at, with_held, with_result, bits_in}
use Rattle.lh_unit.specs.Places.{is_terminator}
use Rattle.lh_unit.specs.Typing.{value_type, result_type, operation_type, carried}
use Rattle.lh_unit.specs.TypingRows.{bit}
use Rattle.lh_unit.specs.declared.inst.UnitKind.TheVariants as kind
use Rattle.lh_unit.specs.Activation as machine
use Rattle.lh_unit.specs.Activation.{Scene, Point, goes, step, executes}
use Rattle.lh_verify_laws.specs.Calls.{AssertIsRight, ArgumentsAre}
use Rattle.lh_verify_laws.specs.Defined.{OperandsThere}
use Rattle.lh_verify_laws.specs.Operands.{IsOf, RowIs}
use Rattle.lh_verify_laws.specs.Parts.{HasPart}
use Rattle.lh_verify_laws.proofs.PartsLaw.{parts_have_ranges}
use Rattle.lh_verify_laws.proofs.AtPlaces.{place-at}
use Rattle.lh_eval.specs.Sound.{IsWrittenRight}
use Rattle.lh_eval.proofs.PartsRead.{of-values, of-signal}
use Rattle.lh_eval.proofs.ValuesFit.{test-truth}
use Rattle.lh_flat_laws.specs.Formed.{IsWithoutCalls}
use Rattle.lh_flat.specs.Flat.{FlatBlockText, as_block}
use Rattle.lh_term.specs.Tree.{Tree, constant, tree_row, operation_on}
use Rattle.lh_term.specs.Types.{IsTyped}
use Rattle.lh_term.specs.Mean.{Valuation, IsFitting, mean, means}
use Rattle.lh_term.specs.Make.{is_zero, make_operation}
use Rattle.lh_term.specs.declared.part.Part.{Part}
use Rattle.lh_types.specs.Same.{nat_eq-is}
use Rattle.lh_term.proofs.Sound.{operation_sound}
use Rattle.lh_term.proofs.TermTypes.{mean_fits}
use Rattle.lh_region_def.specs.Known.{Known, known_value, known_cell, known_part, Knowledge, value_known, cell_known, part_known, values_known, with_given}
use Rattle.lh_region_def.specs.Rows.{Drive}
use Rattle.lh_region_def.specs.Places.{Region, Here, Midst, gives, probes, both, drive_cond, with_drive, drives, asserts, takes, operated}
use Rattle.lh_region_def.specs.Typed.{KnowsTyped, KnowsThere, IsCondition}
use Rattle.lh_region_def.specs.Means.{range_in, lowest_bit, reads, held_as, KnownIsHeld, is_one, due_by, with_row, with_rows}
use Rattle.lh_region_def.specs.Right.{BlockAt}
use Rattle.lh_region_def.proofs.Sites.{Site}
use Rattle.lh_region_def.proofs.MergedValues.{one, mean-bit, and-one}
use Rattle.lh_region_def.proofs.Operations.{datum-shown, cell-shown, part-shown, data-shown, operands-typed, PartStep}
use Rattle.lh_region_def.proofs.KnowledgeChanges.{known-shows, given-shows-typed}
use Rattle.lh_region_def.proofs.Steps.{RegionOf}
use Rattle.lh_region_def.proofs.LineEffects as Taking

-- ---- values

means-map : (past now : Valuation) (ts : List Tree) → means past now (tree_row ts) ≡ map (mean past now) ts
means-map past now [] = refl
means-map past now (t ∷ ts) = ap (λ xs. mean past now t ∷ xs) (means-map past now ts)

pub zero-not-one : (past now : Valuation) (c : Tree) → is_zero c ≡ true → is_one (mean past now c) ≡ false
zero-not-one past now c z = by c z
  where
    number : (n a : ℕ) → nat_eq a 0 ≡ true → nat_eq a 1 ≡ false
    number n a e = ap (λ x. nat_eq x 1) (nat_eq-is a 0 e)

    by : (c : Tree) → is_zero c ≡ true → is_one (mean past now c) ≡ false
    by (constant (int_value n a)) e = number n a e
    by (constant (time_value d)) e = refl
    by (constant (array_value vs)) e = refl
    by (constant (tuple_value vs)) e = refl
    by _ e = absurd (false≢true e)

pub delay-of-time : (d : Datum) → FitsType d time_type → (x : Delay) × (as_delay d ≡ Some x)
delay-of-time (time_value x) f = (x, refl)
delay-of-time (int_value n a) f = absurd f
delay-of-time (array_value vs) f = absurd f
delay-of-time (tuple_value vs) f = absurd f

pub rows-append : (past now : Valuation) (args : List Range) (at : Instant) (w : Wish) (ds : List Drive) (d : Drive)
    → with_rows past now args at w (ds ++ d ∷ []) ≡ with_row past now args at (with_rows past now args at w ds) d
rows-append past now args at w [] d = refl
rows-append past now args at w (x ∷ ds) d = rows-append past now args at (with_row past now args at w x) ds d

-- a row that does not hold adds nothing
pub row-off : (past now : Valuation) (args : List Range) (at : Instant) (w : Wish) (d : Drive) → is_one (mean past now d.cond) ≡ false → with_row past now args at w d ≡ w
row-off past now args at w d q = ap (λ b. if b then wishes.with_drive w (due_by at (mean past now d.delay)) (range_in args d.part).lo (value_bits (mean past now d.value)) else w) q

module _ (u : UnitText) (g : Region) (r : RegionOf u g) (i : ℕ) (b : FlatBlockText) (bat : BlockAt g.blocks i b) (h : Here) (hl : h.label ≡ b.label) (hc : IsCondition h.cond)
    (s : Scene) (args : List Range) (past now : Valuation) (p : IsFitting past) (n : IsFitting now) (probe : (x : Part) → mean past now (g.probe x) ≡ reads args s.now x) where
  abbrev pub v : Tree → Datum
  v = mean past now

  abbrev pub shows : Knowledge → Env → Type 0
  shows = KnownIsHeld u v (range_in args)

  abbrev pub true-here : Tree → Bool
  true-here = one past now p n

  -- a point in this block
  abbrev pub point : Env → List LineText → Wish → List Bool → Point
  point e ls w o = record { control = record { unit = u; block = b.label; rest = ls; held = e }; callers = []; wish = w; outcomes = o }

  -- What executing an instruction that is not the last leads to.
  pub record Executed (l : LineText) (after : List LineText) (e : Env) (w : Wish) (o : List Bool) (m m' : Midst) : Type 0 where
    pub held : Env
    pub wish : Wish
    pub outcomes : List Bool
    pub goes : step s (point e (l ∷ after) w o) ≡ goes (point held after wish outcomes)
    pub shown : shows m'.known held
    pub edges : m'.edges ≡ m.edges
    pub ends : m'.rows.ends ≡ m.rows.ends
    pub wished : (w0 : Wish) → w ≡ with_rows past now args s.at w0 m.rows.drives → wish ≡ with_rows past now args s.at w0 m'.rows.drives
    pub told : m'.rows.asserts ≡ [] → (outcomes ≡ o) × (m.rows.asserts ≡ [])

  module _ (before : List LineText) (l : LineText) (after : List LineText) (site : Site u (as_block b) before l after) (m : Midst) (typed : KnowsTyped u m.known)
      (there : KnowsThere u (as_block b) before m.known)
      (e : Env) (sh : shows m.known e) (w : Wish) (o : List Bool) (reached : true-here h.cond ≡ true) where
    abbrev Operands : InstText → Type 0
    Operands j = OperandsThere kind.Proc u (place-at site.number site.entry (as_block b) before l after) j

    abbrev here : Point
    here = point e after w o

    step-is : (j : InstText) → l.inst ≡ j → step s (point e (l ∷ after) w o) ≡ executes s j l.result here
    step-is j q = ap (λ x. executes s x l.result here) q

    -- something is given
    gives-done : (x : Known) (y : Held) (m1 : Midst) → step s (point e (l ∷ after) w o) ≡ machine.gives here l.result (Some y)
        → ((n : List ℕ) (t : TypeTree) → l.result ≡ Some n → value_type u n ≡ Some t → y ≡ held_as v (range_in args) x)
        → m1.known ≡ m.known → m1.edges ≡ m.edges → m1.rows.drives ≡ m.rows.drives → m1.rows.ends ≡ m.rows.ends → m1.rows.asserts ≡ m.rows.asserts
        → Executed l after e w o m (gives m1 l.result (Some x))
    gives-done x y m1 q go k ed dr en az = record {
      held = with_result e l.result y;
      wish = w;
      outcomes = o;
      goes = q;
      shown = subst (λ j. shows (with_given j l.result (Some x)) (with_result e l.result y)) (sym k) (given-shows-typed u v (range_in args) m.known e l.result x y sh go);
      edges = ed;
      ends = en;
      wished = λ w0 z. z ∙ ap (with_rows past now args s.at w0) (sym dr);
      told = λ z. (refl, sym az ∙ z);
    }

    const-done : (d : Datum) → l.inst ≡ const_text d → Executed l after e w o m (takes g h (const_text d) l.result m)
    const-done d q = gives-done (known_value (constant d)) (datum_held d) m (step-is (const_text d) q) (λ n t z f. refl) refl refl refl refl refl

    option-done : (x : Option Known) (z : Known) (y : Held) → x ≡ Some z → step s (point e (l ∷ after) w o) ≡ machine.gives here l.result (Some y)
        → ((n : List ℕ) (t : TypeTree) → l.result ≡ Some n → value_type u n ≡ Some t → y ≡ held_as v (range_in args) z) → Executed l after e w o m (gives m l.result x)
    option-done x z y q go f = subst (λ k. Executed l after e w o m (gives m l.result k)) (sym q) (gives-done z y m go f refl refl refl refl refl)

    var-done : (a : OperandText) → l.inst ≡ var_text a → RowIs u (var_text a) → Operands (var_text a) → Executed l after e w o m (takes g h (var_text a) l.result m)
    var-done a q row k =
        let x = Taking.var-known u g r i b bat h hl hc before l after site m typed there a row k in
        option-done (option_map known_cell (value_known m.known a.value)) (known_cell x.1) (cell_held (v x.1)) (ap (option_map known_cell) x.3)
        (step-is (var_text a) q ∙ ap (λ y. machine.gives here l.result (option_map cell_held y)) (datum-shown u v (range_in args) m.known e sh a.value x.0 x.1 x.5 x.3)) (λ n t z f. refl)

    ld-done : (a : OperandText) → l.inst ≡ ld_text a → RowIs u (ld_text a) → Operands (ld_text a) → Executed l after e w o m (takes g h (ld_text a) l.result m)
    ld-done a q row k =
        let x = Taking.ld-known u g r i b bat h hl hc before l after site m typed there a row k in
        option-done (option_map known_value (cell_known m.known a.value)) (known_value x.1) (datum_held (v x.1)) (ap (option_map known_value) x.3)
        (step-is (ld_text a) q ∙ ap (λ y. machine.gives here l.result (option_map datum_held y)) (cell-shown u v (range_in args) m.known e sh a.value (pointer_type x.0) x.1 x.5 x.3)) (λ n t z f. refl)

    prb-done : (a : OperandText) → l.inst ≡ prb_text a → RowIs u (prb_text a) → Operands (prb_text a) → Executed l after e w o m (takes g h (prb_text a) l.result m)
    prb-done a q row k =
        let x = Taking.prb-known u g r i b bat h hl hc before l after site m typed there a row k in
        let read : effects.probed s.now e a ≡ Some (datum_held (value_from_bits x.0 (bits_in s.now (range_in args x.1)))) =
        ap (λ y. effects.read_bits s.now (option_and_then carried y) (part_at e a.value)) x.2
        ∙ ap (effects.read_bits s.now (Some x.0)) (part-shown u v (range_in args) m.known e sh a.value (signal_type x.0) x.1 x.6 x.3) in
        let same : value_from_bits x.0 (bits_in s.now (range_in args x.1)) ≡ v (g.probe x.1) = ap (λ y. value_from_bits y (bits_in s.now (range_in args x.1))) (sym x.5) ∙ sym (probe x.1) in
        subst (λ y. Executed l after e w o m (probes g m l.result y)) (sym x.3)
        (gives-done (known_value (g.probe x.1)) (datum_held (v (g.probe x.1))) (record m { rows = record m.rows { probes = m.rows.probes ++ x.1 ∷ [] } })
        (step-is (prb_text a) q ∙ ap (machine.gives here l.result) (read ∙ ap (λ y. Some (datum_held y)) same)) (λ n t z f. refl) refl refl refl refl refl)

    -- the part that a step leads to
    part-done : (f : Op) (os : List OperandText) → (x : PartStep u m.known f os)
        → effects.operated u e f os ≡ Some (part_held (range_in args (record { arg = x.whole.arg; lo = x.whole.lo + x.part.lo; ty = x.part.of })))
    part-done f os x =
        let there : part_at e x.operand.value ≡ Some (range_in args x.whole) = part-shown u v (range_in args) m.known e sh x.operand.value (signal_type x.whole.ty) x.whole x.is x.known in
        let none : data_at e os ≡ None = ap (data_at e) x.operands ∙ no-datum (e x.operand.value) (range_in args x.whole) there in
        of-signal u e f os none
        ∙ ap (effects.signal_part u e f) x.operands
        ∙ ap (λ y. effects.stepped y (part_at e x.operand.value) (step_of f)) x.is
        ∙ ap (λ y. effects.stepped (Some (signal_type x.whole.ty)) y (step_of f)) there
        ∙ ap (effects.stepped (Some (signal_type x.whole.ty)) (Some (range_in args x.whole))) x.takes
        ∙ ap (option_map (λ y. part_held (effects.within (range_in args x.whole) y))) (parts_have_ranges x.whole.ty x.step x.part x.leads)
        ∙ ap (λ y. Some (part_held (record { lo = y; len = bit_count x.part.of }))) (further (lowest_bit args x.whole.arg) x.whole.lo x.part.lo)
      where
        further : (a b c : ℕ) → (a + b) + c ≡ a + (b + c)
        further a b c = omega arith

        no-datum : (y : Option Held) (z : Range) → option_and_then as_part y ≡ Some z → front (option_and_then as_datum y) (Some []) ≡ None
        no-datum None z q = refl
        no-datum (Some (part_held t)) z q = refl
        no-datum (Some (datum_held t)) z q = absurd (none-some z q)
        no-datum (Some (cell_held t)) z q = refl

    pure-done : (f : Op) (os : List OperandText) → l.inst ≡ pure_text f os → RowIs u (pure_text f os) → HasPart u (pure_text f os) → IsWrittenRight (pure_text f os) → Operands (pure_text f os)
        → Executed l after e w o m (takes g h (pure_text f os) l.result m)
    pure-done f os q row part written k = by (Taking.op-known u g r i b bat h hl hc before l after site m typed there f os q row part written k)
      where
        values : (x : Taking.Operated u g r i b bat h hl hc before l after site m typed there f os) (ts : List Tree) → values_known m.known os ≡ Some ts → x.known ≡ known_value (make_operation f ts)
            → ((t : TypeTree) → operation_type f os ≡ Some t → IsTyped (operation_on f ts)) → Executed l after e w o m (gives m l.result (operated m.known f os))
        values x ts a same fits =
            let got : effects.operated u e f os ≡ Some (datum_held (apply f (map v ts))) =
            of-values u e f os (map v ts) (data-shown u v (range_in args) m.known e sh os ts (operands-typed u f os row part) a) in
            option-done (operated m.known f os) x.known (datum_held (apply f (map v ts))) x.is (step-is (pure_text f os) q ∙ ap (machine.gives here l.result) got)
            (λ n1 t z y.
            let made = operation_sound f ts (fits t (sym (site.sound.gives n1 z ∙ ap result_type q) ∙ y)) in
            ap datum_held (ap (apply f) (sym (means-map past now ts)) ∙ sym (made.mean past now p n)) ∙ ap (held_as v (range_in args)) (sym same))

        parts : (x : Taking.Operated u g r i b bat h hl hc before l after site m typed there f os) (y : PartStep u m.known f os)
            → x.known ≡ known_part (record { arg = y.whole.arg; lo = y.whole.lo + y.part.lo; ty = y.part.of }) → Executed l after e w o m (gives m l.result (operated m.known f os))
        parts x y same =
            option-done (operated m.known f os) x.known (part_held (range_in args (record { arg = y.whole.arg; lo = y.whole.lo + y.part.lo; ty = y.part.of }))) x.is
            (step-is (pure_text f os) q ∙ ap (machine.gives here l.result) (part-done f os y)) (λ n t z w. ap (held_as v (range_in args)) (sym same))

        by : Taking.Operated u g r i b bat h hl hc before l after site m typed there f os → Executed l after e w o m (gives m l.result (operated m.known f os))
        by x = ⊎_elim (λ a. values x a.0 a.1 a.2 a.3) (λ a. parts x a.0 a.1) x.how

    st-done : (to : OperandText) (value : List ℕ) → l.inst ≡ st_text to value → RowIs u (st_text to value) → Operands (st_text to value)
        → Executed l after e w o m (takes g h (st_text to value) l.result m)
    st-done to value q row k =
        let x = Taking.st-known u g r i b bat h hl hc before l after site m typed there to value row k in
        let old = cell-shown u v (range_in args) m.known e sh to.value (pointer_type x.0) x.1 x.6 x.3 in
        let new = datum-shown u v (range_in args) m.known e sh value x.0 x.2 x.7 x.4 in
        subst (λ y. Executed l after e w o m (gives m (Some to.value) (option_map known_cell y))) (sym x.4) (record {
          held = with_held e to.value (cell_held (v x.2));
          wish = w;
          outcomes = o;
          goes = step-is (st_text to value) q ∙ (λ j. machine.stores here to.value (old j) (new j));
          shown = known-shows u v (range_in args) m.known e to.value (known_cell x.2) sh;
          edges = refl;
          ends = refl;
          wished = λ w0 z. z;
          told = λ z. (refl, z);
        })

    -- a drive
    drv-done : (to : OperandText) (value after' : List ℕ) (cond : Option (List ℕ)) → l.inst ≡ drv_text to value after' cond → RowIs u (drv_text to value after' cond)
        → Operands (drv_text to value after' cond) → Executed l after e w o m (takes g h (drv_text to value after' cond) l.result m)
    drv-done to value after' cond q row k =
        let d = Taking.drv-known u g r i b bat h hl hc before l after site m typed there to value after' cond row k in
        let x : Drive = record { cond = d.when; part = d.part; value = d.term; delay = d.delay } in
        let done : drives m (drive_cond m.known h.cond cond) (part_known m.known to.value) (value_known m.known value) (value_known m.known after') ≡ with_drive m x =
        λ j. drives m (d.when_is j) (d.part_is j) (d.term_is j) (d.delay_is j) in
        let time = delay-of-time (v d.delay) (subst (FitsType (v d.delay)) d.right.delay.type (mean_fits past now p n d.delay d.right.delay.typed)) in
        let delay : delay_at e after' ≡ Some time.0 = ap (option_and_then as_delay) (datum-shown u v (range_in args) m.known e sh after' time_type d.delay d.after_type d.delay_is) ∙ time.1 in
        let part = part-shown u v (range_in args) m.known e sh to.value (signal_type d.part.ty) d.part d.to_type d.part_is in
        let term = datum-shown u v (range_in args) m.known e sh value d.part.ty d.term d.value_type_is d.term_is in
        let due : due_by s.at (v d.delay) ≡ due_of s.at time.0 = ap (option_and_then (due_of s.at)) time.1 in
        let all : effects.drive_due s.at w (part_at e to.value) (datum_at e value) (delay_at e after')
        ≡ Some (wishes.with_drive w (due_by s.at (v d.delay)) (range_in args d.part).lo (value_bits (v d.term))) =
        (λ j. effects.drive_due s.at w (part j) (term j) (delay j)) ∙ ap (λ y. Some (wishes.with_drive w y (range_in args d.part).lo (value_bits (v d.term)))) (sym due) in
        let drove : effects.driven s.at e w to value after' cond ≡ Some (with_row past now args s.at w x) =
        ap (λ c. effects.drive_when c w (effects.drive_due s.at w (part_at e to.value) (datum_at e value) (delay_at e after'))) (condition d d.how)
        ∙ ap (effects.drive_when (Some (true-here d.when)) w) all ∙ chosen (true-here d.when) _ in
        subst (Executed l after e w o m) (sym done) (by x (step-is (drv_text to value after' cond) q ∙ ap (machine.wishes here) drove) (is_zero x.cond) refl)
      where
        chosen : (c : Bool) (y : Wish) → effects.drive_when (Some c) w (Some y) ≡ Some (if c then y else w)
        chosen true y = refl
        chosen false y = refl

        condition : (d : Taking.Driven u g r i b bat h hl hc before l after site m typed there to value after' cond)
            → ((cond ≡ None) × (d.when ≡ h.cond)) ⊎ ((c : List ℕ) × (t : Tree) × (cond ≡ Some c) × (value_known m.known c ≡ Some t) × IsCondition t × IsOf u bit c × (d.when ≡ both h.cond t))
            → effects.condition_at e cond ≡ Some (true-here d.when)
        condition d (inl a) = ap (effects.condition_at e) a.0 ∙ ap Some (sym (ap true-here a.1 ∙ reached))
        condition d (inr a) =
            let c = datum-shown u v (range_in args) m.known e sh a.0 bit a.1 a.5 a.3 in
            let t : true-here d.when ≡ true-here a.1 = ap true-here a.6 ∙ and-one past now p n h.cond a.1 hc a.4 ∙ ap (λ x. x && true-here a.1) reached in
            ap (effects.condition_at e) a.2 ∙ ap (option_and_then as_test) c ∙ ap as_test (mean-bit past now p n a.1 a.4) ∙ test-truth (true-here a.1) ∙ ap Some (sym t)

        by : (x : Drive) → step s (point e (l ∷ after) w o) ≡ goes (point e after (with_row past now args s.at w x) o) → (z : Bool) → is_zero x.cond ≡ z
            → Executed l after e w o m (if z then m else record m { rows = record m.rows { drives = m.rows.drives ++ x ∷ [] } })
        by x go false z = record {
          held = e;
          wish = with_row past now args s.at w x;
          outcomes = o;
          goes = go;
          shown = sh;
          edges = refl;
          ends = refl;
          wished = λ w0 f. ap (λ y. with_row past now args s.at y x) f ∙ sym (rows-append past now args s.at w0 m.rows.drives x);
          told = λ f. (refl, f);
        }
        by x go true z = record {
          held = e;
          wish = with_row past now args s.at w x;
          outcomes = o;
          goes = go;
          shown = sh;
          edges = refl;
          ends = refl;
          wished = λ w0 f. row-off past now args s.at w x (zero-not-one past now x.cond z) ∙ f;
          told = λ f. (refl, f);
        }

    -- an assertion
    call-done : (f : UnitName) (ty : TypeTree) (os : List OperandText) → l.inst ≡ call_text f ty os → (is_assert f ≡ true) × AssertIsRight u ty os → Operands (call_text f ty os)
        → Executed l after e w o m (takes g h (call_text f ty os) l.result m)
    call-done f ty os q a k = by os a.1.args_are k
        (step-is (call_text f ty os) q ∙ ap (λ x. if x then machine.tells here (machine.asserted e os) else machine.opens here l.result (machine.called (function_named f s.functions) (data_at e os)))
        a.0)
      where
        by : (os : List OperandText) → ArgumentsAre u os assert_args → Operands (call_text f ty os) → step s (point e (l ∷ after) w o) ≡ machine.tells here (machine.asserted e os)
            → Executed l after e w o m (asserts m (values_known m.known os))
        by [] a k go = absurd a
        by (x ∷ y ∷ more) a k go = absurd a.1
        by (x ∷ []) a k go =
            let c = Taking.bit-known u g r i b bat h hl hc before l after site m typed there x.value a.0 k.0 in
            let d = datum-shown u v (range_in args) m.known e sh x.value bit c.0 a.0 c.1 in
            let told : machine.asserted e (x ∷ []) ≡ Some (true-here c.0) = ap (option_and_then as_test) d ∙ ap as_test (mean-bit past now p n c.0 c.2) ∙ test-truth (true-here c.0) in
            let ts : values_known m.known (x ∷ []) ≡ Some (c.0 ∷ []) = ap (λ z. front z (Some [])) c.1 in
            subst (λ z. Executed l after e w o m (asserts m z)) (sym ts) (record {
              held = e;
              wish = w;
              outcomes = o ++ true-here c.0 ∷ [];
              goes = go ∙ ap (machine.tells here) told;
              shown = sh;
              edges = refl;
              ends = refl;
              wished = λ w0 z. z;
              told = λ z. absurd (some-left m.rows.asserts c.0 z);
            })
          where
            some-left : (xs : List Tree) (t : Tree) → xs ++ t ∷ [] ≡ [] → ⊥
            some-left [] t z = cc
            some-left (y ∷ xs) t z = cc

    phi-done : (ty : TypeTree) (es : List EdgeText) → l.inst ≡ phi_text ty es → Executed l after e w o m m
    phi-done ty es q = record { held = e; wish = w; outcomes = o; goes = step-is (phi_text ty es) q; shown = sh; edges = refl; ends = refl; wished = λ w0 z. z; told = λ z. (refl, z) }

    -- What each instruction does that is no terminator.
    pub executed : is_terminator l.inst ≡ false → Executed l after e w o m (takes g h l.inst l.result m)
    executed inner = by l.inst refl inner site.sound.row site.sound.part site.sound.written site.calls site.there
      where
        by : (j : InstText) → l.inst ≡ j → is_terminator j ≡ false → RowIs u j → HasPart u j → IsWrittenRight j → IsWithoutCalls u j → Operands j → Executed l after e w o m (takes g h j l.result m)
        by (const_text d) q t row part x c k = const-done d q
        by (pure_text f os) q t row part x c k = pure-done f os q row part x k
        by (var_text a) q t row part x c k = var-done a q row k
        by (ld_text a) q t row part x c k = ld-done a q row k
        by (st_text to value) q t row part x c k = st-done to value q row k
        by (prb_text a) q t row part x c k = prb-done a q row k
        by (drv_text to value after' cond) q t row part x c k = drv-done to value after' cond q row k
        by (call_text f ty os) q t row part x c k = call-done f ty os q c k
        by (phi_text ty es) q t row part x c k = phi-done ty es q
        by (br_text to) q t row part x c k = absurd (false≢true (sym t))
        by (branch_text c' first second) q t row part x c k = absurd (false≢true (sym t))
        by (wait_text to after' on) q t row part x c k = absurd (false≢true (sym t))
        by halt_text q t row part x c k = absurd (false≢true (sym t))
        by (ret_text a) q t row part x c k = absurd c
        by (sig_text a) q t row part x c k = absurd c
        by (reg_text to gs) q t row part x c k = absurd c
        by (child_text a is os) q t row part x c k = absurd c
