-- Each kind of instruction, as `run_named` runs it.
use Rattle.std.proofs.Common.{◌≡◌, ℕ, ◌<◌, ◌^◌, List, length, map, Bool, false, Option, Result, OnOk, sym, subst, arith}
use Rattle.std.proofs.lemmas.Result.{on_ok_weaker}
use Rattle.lh_time.specs.declared.Instant.{Instant}
use Rattle.lh_types.specs.Wish.{Wish}
use Rattle.lh_types.specs.declared.op.Op.{Op}
use Rattle.lh_types.specs.declared.memory.NoMemory.{NoMemory}
use Rattle.lh_unit.specs.Arena.{Arena, IsArena, InstPlaced, naming, unit_count, unit_text_at}
use Rattle.lh_unit.specs.Held.{Held}
use Rattle.lh_unit.specs.Hierarchy.{if_held}
use Rattle.lh_unit.specs.Naming.{maybe_text, operand_text, trigger_text}
use Rattle.lh_unit.specs.Pass.{Passed, triggers_from}
use Rattle.lh_unit.specs.Within.{Each}
use Rattle.lh_unit.specs.declared.inst.ValueId.{ValueId}
use Rattle.lh_unit.specs.declared.inst.Typed.{Typed}
use Rattle.lh_unit.specs.declared.inst.RegTrigger.{RegTrigger}
use Rattle.lh_unit.specs.declared.inst.Inst.{Inst}
use Rattle.lh_unit.specs.declared.inst.Inst.TheVariants as inst
use Rattle.lh_eval.specs.Holding.{MaybeIn}
use Rattle.lh_eval.specs.Fitting.{OperandsFit, ProbeFits, DriveFits}
use Rattle.lh_eval.specs.Holding.{part_in, datum_in}
use Rattle.lh_eval.specs.Sound.{InstIsSound}
use Rattle.lh_react.specs.declared.pass.PassRun.{PassRun}
use Rattle.lh_react.specs.Standing.{StandsForPass, RunFits, HasGiven, HasWished, named_line}
use Rattle.lh_react.specs.Registers.{TriggerIn, TriggerFits, tries}
use Rattle.lh_react.proofs.RunSteps.{stands-given, stands-wished, stands-tries}
use Rattle.lh_react.proofs.FitSteps.{slots-long, operation-fits, probe-fits, drive-fits, triggers-in, triggers-fit}

module _ (a : Arena) (u : ℕ) where
  pub given-ok : (res : Result (Unit {0}) NoMemory) (p q : Passed) (r s : PassRun) (name : Option ValueId) (h k : Option Held) → IsArena a → u < unit_count a
      → StandsForPass a u p r → MaybeIn r.slots name → h ≡ k → record p { held = if_held p.held (maybe_text (naming a u) name) k } ≡ q
      → OnOk res (HasGiven r name h s) → OnOk res (StandsForPass a u q s)
  given-ok res p q r s name h k o hu st w e g x =
      on_ok_weaker res (λ (y : HasGiven r name h s). subst (λ (z : Passed). StandsForPass a u z s) g (stands-given a u p r s name h k o hu st w e y)) x

  pub wished-ok : (res : Result (Unit {0}) NoMemory) (p q : Passed) (r s : PassRun) (v w : Wish) → StandsForPass a u p r → v ≡ w → record p { wish = w } ≡ q
      → OnOk res (HasWished r v s) → OnOk res (StandsForPass a u q s)
  wished-ok res p q r s v w st e g x =
      on_ok_weaker res (λ (y : HasWished r v s). subst (λ (z : Passed). StandsForPass a u z s) g (stands-wished a u p r s v w st e y)) x

  pub tries-ok : (res : Result (Unit {0}) NoMemory) (memory : Option (List Bool)) (t : Instant) (to : Typed) (gs : List RegTrigger) (p q : Passed)
      (r s : PassRun) → StandsForPass a u p r → to.value.0 < length r.slots → Each (TriggerIn r.slots) gs
      → triggers_from memory t (operand_text (naming a u) to) false p (map (trigger_text (naming a u)) gs) ≡ q
      → OnOk res (s ≡ tries memory t to.value false r gs) → OnOk res (StandsForPass a u q s)
  tries-ok res memory t to gs p q r s st l w g x =
      let have : StandsForPass a u q (tries memory t to.value false r gs) = subst (λ (z : Passed). StandsForPass a u z (tries memory t to.value false r gs)) g
      (stands-tries a u memory t to gs false p r st l w) in
      on_ok_weaker res (λ (y : s ≡ tries memory t to.value false r gs). subst (StandsForPass a u q) (sym y) have) x

  module _ (w : ℕ) (r : PassRun) (f : RunFits a u w r) (few : w < 2 ^ 32) (name : Option ValueId) where
    pub pure-fits : (i : Inst) (op : Op) (args xs : List Typed) → i ≡ inst.Pure op args → xs ≡ args → InstIsSound (unit_text_at a u) (named_line a u name i)
        → InstPlaced a u i → OperandsFit a u r.slots op xs
    pure-fits i op args xs e g s p =
        let s' = subst (λ (x : Inst). InstIsSound (unit_text_at a u) (named_line a u name x)) e s in
        let p' = subst (InstPlaced a u) e p in
        let all : OperandsFit a u r.slots op args = operation-fits a u w r f few op args p' s'.row s'.written in
        subst (OperandsFit a u r.slots op) (sym g) all

    pub prb-fits : (i : Inst) (s : Typed) (now : List Bool) → length now ≡ w → i ≡ inst.Prb s → InstIsSound (unit_text_at a u) (named_line a u name i)
        → InstPlaced a u i → ProbeFits now r.slots s
    prb-fits i s now l e x p =
        let x' = subst (λ (y : Inst). InstIsSound (unit_text_at a u) (named_line a u name y)) e x in
        let p' = subst (InstPlaced a u) e p in
        probe-fits a u w r f now l s (omega (arith, p', slots-long a u w r f)) x'.row

    pub drv-fits : (i : Inst) (to : Typed) (value after : ValueId) (cond : Option ValueId) → i ≡ inst.Drv to value after cond
        → InstIsSound (unit_text_at a u) (named_line a u name i) → InstPlaced a u i → DriveFits (part_in r.slots to.value) (datum_in r.slots value)
    drv-fits i to value after cond e x p =
        let x' = subst (λ (y : Inst). InstIsSound (unit_text_at a u) (named_line a u name y)) e x in
        let p' = subst (InstPlaced a u) e p in
        drive-fits a u w r f few to.value value x'.row.0 (omega (arith, p'.0, slots-long a u w r f))
        (omega (arith, p'.1, slots-long a u w r f)) x'.row.1.1 x'.row.2

    pub reg-in : (i : Inst) (to : Typed) (gs xs : List RegTrigger) → i ≡ inst.Reg to gs → xs ≡ gs → InstPlaced a u i → Each (TriggerIn r.slots) xs
    reg-in i to gs xs e g p = let p' = subst (InstPlaced a u) e p in subst (Each (TriggerIn r.slots)) (sym g) (triggers-in a u w r f gs p'.1)

    pub reg-fits : (i : Inst) (to : Typed) (gs xs : List RegTrigger) → i ≡ inst.Reg to gs → xs ≡ gs → InstIsSound (unit_text_at a u) (named_line a u name i)
        → InstPlaced a u i → Each (TriggerFits r.slots to.value) xs
    reg-fits i to gs xs e g x p =
        let x' = subst (λ (y : Inst). InstIsSound (unit_text_at a u) (named_line a u name y)) e x in
        let p' = subst (InstPlaced a u) e p in
        subst (Each (TriggerFits r.slots to.value)) (sym g)
        (triggers-fit a u w r f few to.value x'.row.0 (omega (arith, p'.0, slots-long a u w r f)) x'.row.1.1 gs p'.1 x'.row.2)

    pub reg-to : (i : Inst) (to : Typed) (gs : List RegTrigger) → i ≡ inst.Reg to gs → InstPlaced a u i → to.value.0 < length r.slots
    reg-to i to gs e p = let p' = subst (InstPlaced a u) e p in omega (arith, p'.0, slots-long a u w r f)
