use Rattle.lh_lower_laws.proofs.OneReplaced.{one-same-trace}
use Rattle.lh_lower_laws.proofs.laws.one_replaced_law.Goals as goal

pub returns : goal.returns
returns c = one-same-trace c.lowered_stands.ensures c.max_is_enough.ensures c.replaced_law.ensures
