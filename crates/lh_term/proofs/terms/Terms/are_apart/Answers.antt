use Rattle.lh_term.proofs.Arenas.{apart_at}
use Rattle.lh_term.proofs.terms.Terms.are_apart.Goals as goal

pub returns : goal.returns
returns c = apart_at _ _ c.self.view_is c.self.invariant
