use Rattle.lh_term.proofs.Swaps.{grows_on, in_grown, if_ok_stands}
use Rattle.lh_edge.proofs.Made.{gate_stands}
use Rattle.lh_edge.proofs.triggers.gate_at.Goals as goal

pub subst-requires-clause-is_in : goal.subst-requires-clause-is_in
subst-requires-clause-is_in c = in_grown c.args.terms.now c.swap_at.new.terms c.in_ok-swap.ensures.kept c.args.cond c.requires.is_in

pub subst-requires-clause-pairs_in : goal.subst-requires-clause-pairs_in
subst-requires-clause-pairs_in c = c.in_ok-swap.ensures.made.pairs_in

pub subst-requires-clause-swaps : goal.subst-requires-clause-swaps
subst-requires-clause-swaps c = c.in_ok-swap.ensures.made.swaps

pub returns-clause-made : goal.returns-clause-made
returns-clause-made c =
    if_ok_stands c.subst.result c.subst.new.self _ _
    (λ y s. gate_stands c.args.terms.now c.swap_at.new.terms c.subst.new.self c.args.rise c.args.part.now c.args.cond y c.in_ok-swap.swap c.in_ok-swap.ensures.kept c.requires.is_in
    c.in_ok-swap.ensures.made s)
    c.subst.ensures.made

pub returns-clause-kept : goal.returns-clause-kept
returns-clause-kept c = grows_on c.args.terms.now c.swap_at.new.terms c.subst.new.self c.in_ok-swap.ensures.kept c.subst.ensures.kept
