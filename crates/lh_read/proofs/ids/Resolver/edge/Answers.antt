use Rattle.lh_read.proofs.Lists.{edge-placed}
use Rattle.lh_read.proofs.ids.Resolver.edge.Goals as goal

pub returns : goal.returns
returns c =
    edge-placed c.args.self.now.module c.value_id.new.self.module c.label_id.new.self.module c.args.unit c.in_ok-value.value c.in_ok-block.block _ _ c.in_ok-value.ensures c.in_ok-block.ensures
