use Rattle.lh_read.proofs.Lists.{value-known}
use Rattle.lh_read.proofs.ids.Resolver.value_id.Goals as goal

pub returns-then-is_named : goal.returns-then-is_named
returns-then-is_named c = value-known c.args.self.now.module c.args.unit _ c.args.name.now (c.is_named.ensures.within c.if-is_named.true) (c.is_named.ensures.name c.if-is_named.true)
