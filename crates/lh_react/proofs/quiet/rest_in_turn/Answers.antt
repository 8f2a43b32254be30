use Rattle.std.proofs.Common.{◌<◌, arith, length}
use Rattle.lh_react.proofs.TriggerLists.{rests-both}
use Rattle.lh_react.proofs.quiet.rest_in_turn.Goals as goal

pub loop-number-preserved : goal.loop-number-preserved
loop-number-preserved c =
    let within : c.loop-number.number < length c.args.values.now = omega (arith, c.loop-number-test.true, c.requires) in
    rests-both c.args.now.now c.args.last.now c.args.triggers.now c.args.values.now c.loop-number.number _ _ c.value_at.result c.loop-number-test.true within
    c.value_at.ensures (c.rests.ensures.is c.if-not-rests.false) (c.rests.ensures.held c.if-not-rests.false) c.loop-number.invariant
