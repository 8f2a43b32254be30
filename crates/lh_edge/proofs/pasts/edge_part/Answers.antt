use Rattle.lh_term.proofs.Swaps.{if_ok_along}
use Rattle.lh_edge.proofs.Ids.{edge_bits, edge_is}
use Rattle.lh_edge.proofs.pasts.edge_part.Goals as goal

pub conjoined-requires-clause-bits : goal.conjoined-requires-clause-bits
conjoined-requires-clause-bits c =
    edge_bits c.args.terms.now c.args.cond c.in_ok-conjuncts.conjuncts c.as_slice-2.result.now c.view-typed.ensures.typed c.requires.bit c.in_ok-conjuncts.ensures.conjuncts c.as_slice-2.ensures

pub returns-clause-made : goal.returns-clause-made
returns-clause-made c =
    if_ok_along c.conjoined.result _ _ _ (edge_is c.args.terms.now c.args.cond c.in_ok-conjuncts.conjuncts c.as_slice-2.result.now c.in_ok-conjuncts.ensures.conjuncts c.as_slice-2.ensures)
    c.conjoined.ensures.made
