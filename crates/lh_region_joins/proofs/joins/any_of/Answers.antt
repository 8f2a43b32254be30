use Rattle.std.proofs.Common.{drop, get_or, ◌+◌}
use Rattle.std.proofs.lemmas.List.{drop_more}
use Rattle.lh_region_joins.proofs.EdgeJoins.{no_edge, AnySoFar-none, AnySoFar-first, AnySoFar-next}
use Rattle.lh_region_joins.proofs.joins.any_of.Goals as goal

pub or-requires-clause-a_holds : goal.or-requires-clause-a_holds
or-requires-clause-a_holds c = c.loop-edge.invariant.any_is

pub or-requires-clause-b_holds : goal.or-requires-clause-b_holds
or-requires-clause-b_holds c =
    let all = c.args.edges.now in let i = c.loop-edge.edge-index in
    AnySoFar-first _ _ _ (drop i all) all (get_or all i no_edge) (drop (i + 1) all) (drop_more all i no_edge c.loop-edge-test.true) c.loop-edge.invariant

pub loop-edge-init : goal.loop-edge-init
loop-edge-init c = AnySoFar-none _ _ _ _ c.bit.ensures.kept c.in_ok-any.ensures.made c.requires

pub loop-edge-preserved : goal.loop-edge-preserved
loop-edge-preserved c =
    let all = c.args.edges.now in let i = c.loop-edge.edge-index in
    AnySoFar-next _ _ _ _ _ (drop i all) all (get_or all i no_edge) (drop (i + 1) all) (drop_more all i no_edge c.loop-edge-test.true) c.or.ensures.kept c.in_ok-any-2.ensures.made
    c.loop-edge.invariant
