-- What is held fits, so that what an instruction asks of its operands is there.
use Rattle.std.proofs.Common.{◌≡◌, ℕ, ◌<◌, ◌^◌, List, [], ◌∷◌, length, map, Bool, Option, Some, None, arith}
use Rattle.lh_types.specs.Types.{TypeTree, signal_type}
use Rattle.lh_unit.specs.Contents.{pure_text, prb_text}
use Rattle.lh_unit.specs.Arena.{Arena, naming, value_count, sizes, unit_text_at}
use Rattle.lh_unit.specs.Naming.{value_text, operand_text, trigger_text}
use Rattle.lh_unit.specs.Within.{Each, OperandWithin, TriggerWithin, MaybeWithin}
use Rattle.lh_unit.specs.declared.inst.ValueId.{ValueId}
use Rattle.lh_unit.specs.declared.inst.Typed.{Typed}
use Rattle.lh_unit.specs.declared.inst.RegTrigger.{RegTrigger}
use Rattle.lh_verify_laws.specs.Operands.{RowIs, IsOf, TriggerIs}
use Rattle.lh_eval.specs.Holding.{datum_in, part_in, MaybeIn}
use Rattle.lh_eval.specs.Fitting.{OperandsFit, ProbeFits, DriveFits}
use Rattle.lh_eval.specs.Sound.{HasOperands}
use Rattle.lh_types.specs.declared.op.Op.{Op}
use Rattle.lh_react.specs.declared.pass.PassRun.{PassRun}
use Rattle.lh_react.specs.Standing.{RunFits}
use Rattle.lh_react.specs.Registers.{TriggerIn, TriggerFits}
use Rattle.lh_eval_laws.proofs.SlotsFit.{operation-has, probe-has, drive-has}

module _ (a : Arena) (u w : ℕ) (r : PassRun) (f : RunFits a u w r) where
  pub slots-long : length r.slots ≡ value_count a u
  slots-long = f.stands.holds.long

  pub operation-fits : w < 2 ^ 32 → (o : Op) (args : List Typed) → Each (OperandWithin (sizes a u)) args
      → RowIs (unit_text_at a u) (pure_text o (map (operand_text (naming a u)) args)) → HasOperands o (map (operand_text (naming a u)) args)
      → OperandsFit a u r.slots o args
  operation-fits few o args l row has = operation-has a u w r.slots f.passed.held f.stands.holds f.fits few o args l row has

  -- a probe
  pub probe-fits : (now : List Bool) → length now ≡ w → (s : Typed) → s.value.0 < length r.slots
      → RowIs (unit_text_at a u) (prb_text (operand_text (naming a u) s)) → ProbeFits now r.slots s
  probe-fits now n s l row = probe-has a u w r.slots f.passed.held f.stands.holds f.fits now n s l row

  -- a drive of a value to a signal that carries its type
  pub drive-fits : w < 2 ^ 32 → (to value : ValueId) (t : TypeTree) → to.0 < length r.slots → value.0 < length r.slots
      → IsOf (unit_text_at a u) (signal_type t) (value_text (naming a u) to) → IsOf (unit_text_at a u) t (value_text (naming a u) value)
      → DriveFits (part_in r.slots to) (datum_in r.slots value)
  drive-fits few to value t l m p q = drive-has a u w r.slots f.passed.held f.stands.holds f.fits few to value t l m p q

  trigger-in : (g : RegTrigger) → TriggerWithin (sizes a u) g → TriggerIn r.slots g
  trigger-in g x = record {
    value = omega (arith, x.0, slots-long);
    trigger = omega (arith, x.1, slots-long);
    gate = by g.gate x.2;
    after = by g.after x.3;
  }
    where
      by : (y : Option ValueId) → MaybeWithin (sizes a u) y → MaybeIn r.slots y
      by None e = tt
      by (Some v) e = omega (arith, e, slots-long)

  pub triggers-in : (gs : List RegTrigger) → Each (TriggerWithin (sizes a u)) gs → Each (TriggerIn r.slots) gs
  triggers-in [] e = tt
  triggers-in (g ∷ gs) e = (trigger-in g e.0, triggers-in gs e.1)

  pub triggers-fit : w < 2 ^ 32 → (to : ValueId) (t : TypeTree) → to.0 < length r.slots → IsOf (unit_text_at a u) (signal_type t) (value_text (naming a u) to)
      → (gs : List RegTrigger) → Each (TriggerWithin (sizes a u)) gs → Each (TriggerIs (unit_text_at a u) t) (map (trigger_text (naming a u)) gs)
      → Each (TriggerFits r.slots to) gs
  triggers-fit few to t l p [] e q = tt
  triggers-fit few to t l p (g ∷ gs) e q = (drive-fits few to g.value t l (omega (arith, e.0.0, slots-long)) p q.0.value, triggers-fit few to t l p gs e.1 q.1)
