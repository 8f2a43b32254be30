use Rattle.lh_term.proofs.Arenas.{all_typed_at}
use Rattle.lh_term.proofs.terms.Terms.are_all_typed.Goals as goal

pub returns : goal.returns
returns c = all_typed_at _ _ c.self.view_is c.self.invariant
