use Rattle.std.proofs.Common.{List, sym, subst}
use Rattle.std.proofs.lemmas.List.{append-nil}
use Rattle.lh_unit.specs.Arena.{naming, unit_text_at}
use Rattle.lh_unit.specs.Contents.{TriggerText}
use Rattle.lh_unit.specs.Naming.{trigger_text}
use Rattle.lh_react.specs.TriggerBits.{AreTriggerBits}
use Rattle.lh_react.proofs.TriggerLists.{adds-next}
use Rattle.lh_react.proofs.places.add_register.Goals as goal

pub loop-trigger-init : goal.loop-trigger-init
loop-trigger-init c = λ before are. subst
    (λ (gs : List TriggerText). AreTriggerBits (unit_text_at c.args.m.now c.args.unit.0) c.args.args.now gs c.args.bits.now) (sym (append-nil before)) are

pub loop-trigger-preserved : goal.loop-trigger-preserved
loop-trigger-preserved c = λ before are.
    adds-next (unit_text_at c.args.m.now c.args.unit.0) c.args.args.now
    (trigger_text (naming c.args.m.now c.args.unit.0)) before c.args.triggers.now c.loop-trigger.trigger-index _ c.loop-trigger.bits c.push.new.self
    c.in-Some.bit c.loop-trigger-test.true
    (c.loop-trigger.invariant before are) c.in-Some.ensures c.in_ok-push.ensures.ok
