use Rattle.std.proofs.Common.{List, [], ◌∷◌, ◌++◌, sym, subst}
use Rattle.lh_term.specs.declared.term.TermId.{TermId}
use Rattle.lh_term.specs.Arena.{tree_at, trees}
use Rattle.lh_term.specs.Reach.{AreReached}
use Rattle.lh_edge.specs.Atoms.{subterms}
use Rattle.lh_edge.specs.Reached.{joined_by}
use Rattle.lh_edge.proofs.Found.{found_of_none}
use Rattle.lh_cert_agree.proofs.Everywhere.{too_many}
use Rattle.lh_cert_agree.proofs.agreement.agree_by_atoms.Goals as goal

pub atoms_among-requires : goal.atoms_among-requires
atoms_among-requires c =
    subst (λ (ids : List TermId). AreReached (joined_by (trees c.args.terms.now)) c.args.terms.now (c.args.a ∷ c.args.b ∷ []) ids) (sym c.deref.ensures.value) c.in_ok-joined.ensures

pub agree_everywhere-requires-clause-joined : goal.agree_everywhere-requires-clause-joined
agree_everywhere-requires-clause-joined c =
    subst (λ (ids : List TermId). AreReached (joined_by (trees c.args.terms.now)) c.args.terms.now (c.args.a ∷ c.args.b ∷ []) ids) (sym c.deref-in-Some.ensures.value) c.in_ok-joined.ensures

pub returns : goal.returns
returns c =
    let f = found_of_none c.args.terms.now (subterms (tree_at (trees c.args.terms.now) c.args.a) ++ subterms (tree_at (trees c.args.terms.now) c.args.b)) _ c.in-None.is c.in_ok-atoms.ensures in
    too_many c.args.terms.now (tree_at (trees c.args.terms.now) c.args.a) (tree_at (trees c.args.terms.now) c.args.b) f.0 f.1 f.2
