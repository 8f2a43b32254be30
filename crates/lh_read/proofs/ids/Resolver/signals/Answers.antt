use Rattle.std.proofs.Common.{take}
use Rattle.lh_read.proofs.Lists.{values-keep, next_item, next-placed}
use Rattle.lh_read.proofs.ids.Resolver.signals.Goals as goal

pub loop-one-preserved : goal.loop-one-preserved
loop-one-preserved c =
    let from = c.args.from.now in let i = c.loop-one.one-index in let one = c.one-item.result in
    next-placed values-keep c.args.self.now.module c.loop-one.self.module c.value_id.new.self.module c.args.unit c.loop-one.to c.push.new.self c.in_ok-placed.placed (take i from) _ one
    c.loop-one.invariant c.in_ok-placed.ensures c.in_ok-push.ensures.ok (next_item from i one c.loop-one-test.true c.one-item.is)
