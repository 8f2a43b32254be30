use Rattle.std.proofs.Common.{List, ◌++◌, map, take}
use Rattle.lh_unit.specs.Arena.{naming, unit_text_at}
use Rattle.lh_unit.specs.Contents.{TriggerText}
use Rattle.lh_unit.specs.Naming.{trigger_text}
use Rattle.lh_react.specs.TriggerBits.{AreTriggerBits}
use Rattle.lh_react.proofs.places.add_register.Given as goal

abbrev pub invariant-loop-trigger : goal.invariant-loop-trigger
invariant-loop-trigger l = (before : List TriggerText) → AreTriggerBits (unit_text_at l.m l.unit.0) l.args before l.fn.bits
    → AreTriggerBits (unit_text_at l.m l.unit.0) l.args (before ++ map (trigger_text (naming l.m l.unit.0)) (take l.trigger-index l.triggers)) l.bits
