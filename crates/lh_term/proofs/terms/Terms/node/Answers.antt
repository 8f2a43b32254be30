use Rattle.std.proofs.Common.{sym}
use Rattle.lh_term.proofs.Arenas.{at_shown, at_below_id, at_typed, at_ty, at_term}
use Rattle.lh_term.proofs.terms.Terms.node.Goals as goal

pub returns-clause-shown : goal.returns-clause-shown
returns-clause-shown c = at_shown _ _ c.self.view_is c.self.invariant _ _ (sym c.in-Some.ensures.key)

pub returns-clause-below : goal.returns-clause-below
returns-clause-below c = at_below_id _ _ c.self.view_is c.self.invariant _ _ (sym c.in-Some.ensures.key)

pub returns-clause-typed : goal.returns-clause-typed
returns-clause-typed c = at_typed _ _ c.self.view_is c.self.invariant _ _ (sym c.in-Some.ensures.key)

pub returns-clause-ty : goal.returns-clause-ty
returns-clause-ty c = at_ty _ _ c.self.view_is c.self.invariant _ _ (sym c.in-Some.ensures.key)

pub returns-clause-term : goal.returns-clause-term
returns-clause-term c = at_term _ _ c.self.view_is _ _ (sym c.in-Some.ensures.key)
