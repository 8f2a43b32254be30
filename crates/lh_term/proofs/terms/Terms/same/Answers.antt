use Rattle.lh_term.proofs.Arenas.{one_id}
use Rattle.lh_term.proofs.terms.Terms.same.Goals as goal

pub returns : goal.returns
returns c = one_id _ _ c.self.view_is c.self.invariant c.args.x c.args.y c.requires.x_in c.requires.y_in
