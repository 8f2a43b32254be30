use Rattle.std.proofs.Common.{◌+◌, drop, sym, subst}
use Rattle.std.proofs.lemmas.List.{drop_all}
use Rattle.lh_unit.proofs.Lists.{drop-item}
use Rattle.lh_term.proofs.Swaps.{grows_on}
use Rattle.lh_emit_shapes.specs.Putting.{NeedsTriggersNot}
use Rattle.lh_emit_shapes.proofs.ConditionNeeds.{err-memory}
use Rattle.lh_emit_shapes.proofs.RowGrowth.{grows-same}
use Rattle.lh_emit_shapes.proofs.Registers.{TriggersSoFar, triggers-begin, triggers-can, triggers-next, triggers-not, triggers-end}
use Rattle.lh_emit_shapes.proofs.bodies.row_triggers.Goals as goal
use Rattle.lh_emit.proofs.StepLaws.{err-cause}

pub loop-trigger-init : goal.loop-trigger-init
loop-trigger-init c =
    let o = c.args.origin.now in let row = c.args.row.now in let ns = c.args.terms.now in let x = c.args.emitter.now in
    subst (λ left. TriggersSoFar o row ns x ns x c.new-triggers.result left) (sym c.as_slice-trigger-items.ensures)
    (triggers-begin o row ns x c.new-triggers.result c.new-triggers.ensures (grows-same ns) c.requires)

pub reg_trigger-requires : goal.reg_trigger-requires
reg_trigger-requires c =
    let o = c.args.origin.now in let row = c.args.row.now in let ns = c.args.terms.now in let x = c.args.emitter.now in
    let all = c.as_slice-trigger-items.result.now in let i = c.loop-trigger.trigger-index in
    triggers-can o row ns x c.loop-trigger.terms c.loop-trigger.emitter c.loop-trigger.triggers c.trigger-item.result (drop (i + 1) all) (drop i all)
    (drop-item all i c.trigger-item.result c.loop-trigger-test.true c.trigger-item.is) c.loop-trigger.invariant

pub returns-in_err-made-clause-cause : goal.returns-in_err-made-clause-cause
returns-in_err-made-clause-cause c =
    let o = c.args.origin.now in let row = c.args.row.now in let ns = c.args.terms.now in let x = c.args.emitter.now in
    let all = c.as_slice-trigger-items.result.now in let i = c.loop-trigger.trigger-index in
    err-cause c.from_residual.result c.in_err-made.field-0.0 (NeedsTriggersNot ns o x row) c.from_residual.ensures.1
    (triggers-not o row ns x c.loop-trigger.terms c.loop-trigger.emitter c.loop-trigger.triggers c.trigger-item.result (drop (i + 1) all) (drop i all)
    (drop-item all i c.trigger-item.result c.loop-trigger-test.true c.trigger-item.is) c.loop-trigger.invariant c.in_err-made.field-0.0 c.in_err-made.ensures.cause)

pub loop-trigger-preserved : goal.loop-trigger-preserved
loop-trigger-preserved c =
    let o = c.args.origin.now in let row = c.args.row.now in let ns = c.args.terms.now in let x = c.args.emitter.now in
    let all = c.as_slice-trigger-items.result.now in let i = c.loop-trigger.trigger-index in
    triggers-next o row ns x c.loop-trigger.terms c.loop-trigger.emitter c.loop-trigger.triggers c.trigger-item.result (drop (i + 1) all) (drop i all)
    (drop-item all i c.trigger-item.result c.loop-trigger-test.true c.trigger-item.is) c.loop-trigger.invariant
    _ _ c.in_ok-made.made _ c.in_ok-push.ensures.ok c.in_ok-made.ensures.kept c.in_ok-made.ensures.grows c.in_ok-made.ensures.needed

pub returns-clause-needed : goal.returns-clause-needed
returns-clause-needed c =
    let o = c.args.origin.now in let row = c.args.row.now in let ns = c.args.terms.now in let x = c.args.emitter.now in
    let all = c.as_slice-trigger-items.result.now in let i = c.loop-trigger.trigger-index in
    triggers-end o row ns x c.loop-trigger.terms c.loop-trigger.emitter c.loop-trigger.triggers (drop i all) (drop_all i all c.loop-trigger-test.false) c.loop-trigger.invariant

pub returns-in_err-made-clause-kept : goal.returns-in_err-made-clause-kept
returns-in_err-made-clause-kept c = grows_on c.args.terms.now c.loop-trigger.terms c.reg_trigger.new.terms c.loop-trigger.invariant.grows c.in_err-made.ensures.kept

pub returns-in_err-push-clause-kept : goal.returns-in_err-push-clause-kept
returns-in_err-push-clause-kept c = grows_on c.args.terms.now c.loop-trigger.terms c.reg_trigger.new.terms c.loop-trigger.invariant.grows c.in_ok-made.ensures.kept

pub returns-clause-kept : goal.returns-clause-kept
returns-clause-kept c = c.loop-trigger.invariant.grows

pub returns-in_err-push-clause-cause : goal.returns-in_err-push-clause-cause
returns-in_err-push-clause-cause c =
    err-memory c.from_residual-in_err-push.result (NeedsTriggersNot c.args.terms.now c.args.origin.now c.args.emitter.now c.args.row.now) c.from_residual-in_err-push.ensures.1 tt
