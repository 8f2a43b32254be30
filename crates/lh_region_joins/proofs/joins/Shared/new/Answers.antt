use Rattle.std.proofs.Common.{take, get_or, sym, subst, List}
use Rattle.std.proofs.lemmas.List.{take_more}
use Rattle.lh_region_joins.specs.declared.edge.Edge.{Edge}
use Rattle.lh_region_joins.specs.Joins.{IsShared}
use Rattle.lh_region_joins.proofs.EdgeJoins.{no_edge, Shared-next}
use Rattle.lh_region_joins.proofs.joins.Shared.new.Goals as goal

pub loop-edge-preserved : goal.loop-edge-preserved
loop-edge-preserved c =
    let all = c.args.edges.now in let i = c.loop-edge.edge-index in
    subst (λ (es : List Edge). IsShared c.args.terms.now es c.take.new.self) (sym (take_more all i no_edge c.loop-edge-test.true))
    (Shared-next _ (take i all) (get_or all i no_edge) _ _ c.in_ok-conjuncts.conjuncts c.are_apart.ensures c.in_ok-conjuncts.ensures.within c.in_ok-conjuncts.ensures.conjuncts
    c.in_ok-take.ensures.edges c.in_ok-take.ensures.counts c.loop-edge.invariant)
