use Rattle.lh_term.proofs.Arenas.{ids_typed}
use Rattle.lh_term.proofs.terms.Terms.are_typed.Goals as goal

pub returns : goal.returns
returns c = ids_typed _ _ c.self.view_is c.self.invariant c.args.xs.now c.requires
