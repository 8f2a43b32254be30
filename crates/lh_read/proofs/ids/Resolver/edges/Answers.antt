use Rattle.std.proofs.Common.{map, take}
use Rattle.lh_read_phrases.specs.SyntaxOf.{edge_of}
use Rattle.lh_read.proofs.Lists.{edges-keep, next_said, next-placed}
use Rattle.lh_read.proofs.ids.Resolver.edges.Goals as goal

pub loop-one-preserved : goal.loop-one-preserved
loop-one-preserved c =
    let from = c.args.from.now in let i = c.loop-one.one-index in let one = c.one-item.result in
    next-placed edges-keep c.args.self.now.module c.loop-one.self.module c.edge.new.self.module c.args.unit c.loop-one.to c.push.new.self c.in_ok-placed.placed (map edge_of (take i from)) _ (edge_of one)
    c.loop-one.invariant c.in_ok-placed.ensures c.in_ok-push.ensures.ok (next_said edge_of from i one c.loop-one-test.true c.one-item.is)
