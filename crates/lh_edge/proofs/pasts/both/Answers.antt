use Rattle.lh_term.proofs.Conditions.{and_typed}
use Rattle.lh_edge.proofs.pasts.both.Goals as goal

pub op-requires-clause-fits : goal.op-requires-clause-fits
op-requires-clause-fits c = let t = and_typed _ _ c.requires.x_bit c.requires.y_bit in t.1
