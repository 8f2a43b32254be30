use Rattle.lh_read.proofs.Lists.{pair, two-read}
use Rattle.lh_read.proofs.ids.Resolver.two_operands.Goals as goal

pub returns : goal.returns
returns c =
    two-read c.args.self.now.module c.lent_operand.new.self.module c.lent_operand-2.new.self.module c.args.unit c.in_ok-first.first c.in_ok-second.second c.two.result c.args.from.now _ _
    c.in_ok-first.ensures c.in_ok-second.ensures c.two.ensures (pair c.args.from.now c.index-from-0.result c.index-from-1.result c.type_inv.from)
