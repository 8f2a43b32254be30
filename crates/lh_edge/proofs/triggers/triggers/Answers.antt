use Rattle.std.proofs.Common.{List, length, ◌≤◌, sym, subst, arith}
use Rattle.lh_term.specs.declared.term.TermId.{TermId}
use Rattle.lh_term.specs.Arena.{tree_at, trees, IsIn}
use Rattle.lh_term.proofs.Swaps.{in_grown, grows_on}
use Rattle.lh_edge.specs.Gates.{IsPresents}
use Rattle.lh_edge.proofs.Made.{made_start, made_next, made_all, presents_on, bit_at}
use Rattle.lh_edge.proofs.triggers.triggers.Goals as goal

pub loop-k-init : goal.loop-k-init
loop-k-init c = made_start c.args.terms.now c.presents.new.terms c.args.cond c.args.parts.now c.in_ok-presents.presents.items c.new-triggers.result c.in_ok-presents.ensures.kept c.requires.is_in
    c.in_ok-presents.ensures.made c.new-triggers.ensures

pub add_trigger-requires-clause-bit : goal.add_trigger-requires-clause-bit
add_trigger-requires-clause-bit c = bit_at c.args.parts.now c.loop-k.k c.index-parts-k.result c.requires.bits c.loop-k-test.true c.index-parts-k.is

pub add_trigger-requires-in-loop-k-clause-bit : goal.add_trigger-requires-in-loop-k-clause-bit
add_trigger-requires-in-loop-k-clause-bit c = bit_at c.args.parts.now c.loop-k.k c.index-parts-k.result c.requires.bits c.loop-k-test.true c.index-parts-k.is

pub add_trigger-requires-in-loop-k-clause-presents : goal.add_trigger-requires-in-loop-k-clause-presents
add_trigger-requires-in-loop-k-clause-presents c =
    let i : IsIn c.loop-k.terms c.args.cond = in_grown c.args.terms.now c.loop-k.terms c.loop-k.invariant.grows c.args.cond c.requires.is_in in
    subst (λ (ps : List (TermId × TermId)). IsPresents c.add_trigger.new.terms (tree_at (trees c.add_trigger.new.terms) c.args.cond) ps) (sym c.deref-in-loop-k.ensures.value)
    (presents_on c.loop-k.terms c.add_trigger.new.terms c.args.cond c.in_ok-presents.presents.items c.in_ok-add_trigger.ensures.kept i c.loop-k.invariant.presents_are)

pub loop-k-preserved : goal.loop-k-preserved
loop-k-preserved c =
    made_next c.args.terms.now c.loop-k.terms c.add_trigger.new.terms c.add_trigger-in-loop-k.new.terms c.args.cond c.args.parts.now c.in_ok-presents.presents.items c.loop-k.triggers
    c.add_trigger.new.triggers c.add_trigger-in-loop-k.new.triggers c.loop-k.k c.index-parts-k.result
    c.loop-k.invariant c.requires.is_in c.loop-k-test.true c.index-parts-k.is c.in_ok-add_trigger.ensures.kept c.in_ok-add_trigger.ensures.added c.in_ok-add_trigger-2.ensures.kept
    c.in_ok-add_trigger-2.ensures.added

pub add_trigger-requires-clause-is_in : goal.add_trigger-requires-clause-is_in
add_trigger-requires-clause-is_in c = in_grown c.args.terms.now c.loop-k.terms c.loop-k.invariant.grows c.args.cond c.requires.is_in

pub add_trigger-requires-clause-presents : goal.add_trigger-requires-clause-presents
add_trigger-requires-clause-presents c =
    subst (λ (ps : List (TermId × TermId)). IsPresents c.loop-k.terms (tree_at (trees c.loop-k.terms) c.args.cond) ps) (sym c.deref.ensures.value) c.loop-k.invariant.presents_are

pub returns-in_err-add_trigger-clause-kept : goal.returns-in_err-add_trigger-clause-kept
returns-in_err-add_trigger-clause-kept c = grows_on c.args.terms.now c.loop-k.terms c.add_trigger.new.terms c.loop-k.invariant.grows c.in_err-add_trigger.ensures.kept

pub add_trigger-requires-in-loop-k-clause-is_in : goal.add_trigger-requires-in-loop-k-clause-is_in
add_trigger-requires-in-loop-k-clause-is_in c =
    in_grown c.loop-k.terms c.add_trigger.new.terms c.in_ok-add_trigger.ensures.kept c.args.cond (in_grown c.args.terms.now c.loop-k.terms c.loop-k.invariant.grows c.args.cond c.requires.is_in)

pub returns-in_err-add_trigger-2-clause-kept : goal.returns-in_err-add_trigger-2-clause-kept
returns-in_err-add_trigger-2-clause-kept c =
    grows_on c.args.terms.now c.loop-k.terms c.add_trigger-in-loop-k.new.terms c.loop-k.invariant.grows
    (grows_on c.loop-k.terms c.add_trigger.new.terms c.add_trigger-in-loop-k.new.terms c.in_ok-add_trigger.ensures.kept c.in_err-add_trigger-2.ensures.kept)

pub returns-clause-made : goal.returns-clause-made
returns-clause-made c =
    let l : length c.args.parts.now ≤ c.loop-k.k = omega (arith, c.loop-k-test.false) in
    made_all c.args.terms.now c.loop-k.terms c.args.cond c.args.parts.now c.in_ok-presents.presents.items c.loop-k.triggers c.loop-k.k c.loop-k.invariant l

pub returns-clause-kept : goal.returns-clause-kept
returns-clause-kept c = c.loop-k.invariant.grows
