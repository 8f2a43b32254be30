use Rattle.std.proofs.Common.{◌≡◌, ◌<◌, ◌≤◌, List, [], ◌∷◌, length, sym, subst, arith}
use Rattle.lh_term.specs.declared.term.TermId.{TermId}
use Rattle.lh_term.specs.Arena.{tree_at, trees}
use Rattle.lh_term.specs.Reach.{AreReached}
use Rattle.lh_term.proofs.Swaps.{grows_on}
use Rattle.lh_edge.specs.Atoms.{subterms}
use Rattle.lh_edge.specs.Reached.{joined_by}
use Rattle.lh_edge.specs.Steps.{AreAllIdsOf}
use Rattle.lh_edge.proofs.Found.{too_many, found_of_none, found_of_some, more_than, present_start, present_next, the_atoms}
use Rattle.lh_edge.proofs.atoms.atoms_of.Goals as goal

pub found_subterms-requires : goal.found_subterms-requires
found_subterms-requires c =
    subst (λ (ids : List TermId). AreReached (joined_by (trees c.args.terms.now)) c.args.terms.now (c.args.edge ∷ []) ids) (sym c.deref.ensures.value) c.in_ok-joined.ensures

pub returns-in_default-clause-found : goal.returns-in_default-clause-found
returns-in_default-clause-found c =
    too_many c.args.terms.now (tree_at (trees c.args.terms.now) c.args.edge)
    (found_of_none c.args.terms.now (subterms (tree_at (trees c.args.terms.now) c.args.edge)) _ c.in_default.is c.in_ok-atoms.ensures)

pub loop-k-preserved : goal.loop-k-preserved
loop-k-preserved c =
    let a : AreAllIdsOf c.args.terms.now (subterms (tree_at (trees c.args.terms.now) c.args.edge)) c.in-Some.atoms.items = found_of_some c.args.terms.now
    (subterms (tree_at (trees c.args.terms.now) c.args.edge)) _ c.in-Some.atoms c.in-Some.is c.in_ok-atoms.ensures in
    let l : c.loop-k.k < length c.in-Some.atoms.items = omega (arith, c.loop-k-test.true, c.len-k-end.ensures) in
    present_next c.args.terms.now c.loop-k.terms (tree_at (trees c.args.terms.now) c.args.edge) c.in-Some.atoms.items c.loop-k.atoms.items c.loop-k.k a c.loop-k.invariant l c.add_present.new.terms
    c.add_present.new.atoms.items c.in_ok-add_present.ensures.kept c.in_ok-add_present.ensures.added

pub returns-then-len-gt-MAX_ATOMS-clause-found : goal.returns-then-len-gt-MAX_ATOMS-clause-found
returns-then-len-gt-MAX_ATOMS-clause-found c =
    let l : 12 < length c.loop-k.atoms.items = omega (arith, c.if-len-gt-MAX_ATOMS.true, c.len.ensures) in
    more_than c.args.terms.now (tree_at (trees c.args.terms.now) c.args.edge) c.loop-k.terms c.in-Some.atoms.items c.loop-k.atoms.items c.loop-k.k c.loop-k.invariant l

pub returns-clause-found : goal.returns-clause-found
returns-clause-found c =
    let a : AreAllIdsOf c.args.terms.now (subterms (tree_at (trees c.args.terms.now) c.args.edge)) c.in-Some.atoms.items = found_of_some c.args.terms.now
    (subterms (tree_at (trees c.args.terms.now) c.args.edge)) _ c.in-Some.atoms c.in-Some.is c.in_ok-atoms.ensures in
    let l : length c.loop-k.atoms.items ≤ 12 = omega (arith, c.if-len-gt-MAX_ATOMS.false, c.len.ensures) in
    let n : c.loop-k.k ≡ length c.in-Some.atoms.items = omega (arith, c.loop-k-test.false, c.loop-k.auto.k-end, c.len-k-end.ensures) in
    the_atoms c.args.terms.now c.loop-k.terms (tree_at (trees c.args.terms.now) c.args.edge) c.in-Some.atoms.items c.loop-k.atoms.items c.loop-k.k a c.loop-k.invariant n l

pub loop-k-init : goal.loop-k-init
loop-k-init c =
    present_start c.args.terms.now (tree_at (trees c.args.terms.now) c.args.edge) c.in-Some.atoms.items
    (found_of_some c.args.terms.now (subterms (tree_at (trees c.args.terms.now) c.args.edge)) _ c.in-Some.atoms c.in-Some.is c.in_ok-atoms.ensures)

pub add_present-requires-clause-are_in : goal.add_present-requires-clause-are_in
add_present-requires-clause-are_in c = c.loop-k.invariant.of.are_in

pub returns-in_err-add_present-clause-kept : goal.returns-in_err-add_present-clause-kept
returns-in_err-add_present-clause-kept c = grows_on c.args.terms.now c.loop-k.terms c.add_present.new.terms c.loop-k.invariant.grows c.in_err-add_present.ensures.kept

pub returns-then-len-gt-MAX_ATOMS-clause-kept : goal.returns-then-len-gt-MAX_ATOMS-clause-kept
returns-then-len-gt-MAX_ATOMS-clause-kept c = c.loop-k.invariant.grows

pub returns-clause-kept : goal.returns-clause-kept
returns-clause-kept c = c.loop-k.invariant.grows
