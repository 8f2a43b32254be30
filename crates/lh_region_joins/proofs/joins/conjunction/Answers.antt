use Rattle.std.proofs.Common.{drop, get_or, ◌+◌}
use Rattle.std.proofs.lemmas.List.{drop_more}
use Rattle.lh_region_joins.proofs.EdgeJoins.{no_id, AllSoFar-none, AllSoFar-first, AllSoFar-next}
use Rattle.lh_region_joins.proofs.joins.conjunction.Goals as goal

pub and-requires-clause-b_holds : goal.and-requires-clause-b_holds
and-requires-clause-b_holds c =
    let all = c.args.conds.now in let i = c.loop-cond.cond-index in
    AllSoFar-first _ _ _ (drop i all) all (get_or all i no_id) (drop (i + 1) all) (drop_more all i no_id c.loop-cond-test.true) c.loop-cond.invariant

pub loop-cond-init : goal.loop-cond-init
loop-cond-init c = AllSoFar-none _ _ _ _ c.bit.ensures.kept c.in_ok-all.ensures.made c.requires

pub loop-cond-preserved : goal.loop-cond-preserved
loop-cond-preserved c =
    let all = c.args.conds.now in let i = c.loop-cond.cond-index in
    AllSoFar-next _ _ _ _ _ (drop i all) all (get_or all i no_id) (drop (i + 1) all) (drop_more all i no_id c.loop-cond-test.true) c.and.ensures.kept c.in_ok-all-2.ensures.made c.loop-cond.invariant
