use Rattle.std.proofs.Common.{◌<◌, ◌≤◌, ℕ, drop, get_or, ◌+◌, sym, subst}
use Rattle.std.proofs.lemmas.List.{drop_more, drop_all}
use Rattle.lh_region_joins.proofs.EdgeJoins.{no_id}
use Rattle.lh_region_joins.proofs.Selectors.{MergeSoFar-none, MergeSoFar-can, MergeSoFar-next, MergeSoFar-end}
use Rattle.lh_region_joins.proofs.joins.merge.Goals as goal

pub loop-k-init : goal.loop-k-init
loop-k-init c = MergeSoFar-none _ _ _ _ c.requires

pub choose-requires : goal.choose-requires
choose-requires c =
    let ss = c.args.selectors.now in let vs = c.args.others.now in let k = c.loop-k.k in
    MergeSoFar-can _ _ _ _ (drop k ss) (drop k vs) _ _ (get_or ss k no_id) (get_or vs k no_id) (drop (k + 1) ss) (drop (k + 1) vs)
    (drop_more ss k no_id (subst (λ (n : ℕ). k < n) (sym c.requires.long) c.loop-k-test.true)) (drop_more vs k no_id c.loop-k-test.true) c.loop-k.invariant

pub loop-k-preserved : goal.loop-k-preserved
loop-k-preserved c =
    let ss = c.args.selectors.now in let vs = c.args.others.now in let k = c.loop-k.k in
    MergeSoFar-next _ _ _ _ _ _ (drop k ss) (drop k vs) _ _ (get_or ss k no_id) (get_or vs k no_id) (drop (k + 1) ss) (drop (k + 1) vs)
    (drop_more ss k no_id (subst (λ (n : ℕ). k < n) (sym c.requires.long) c.loop-k-test.true)) (drop_more vs k no_id c.loop-k-test.true) c.choose.ensures.kept c.in_ok-merged.ensures.made
    c.loop-k.invariant

pub returns : goal.returns
returns c =
    record {
      made = MergeSoFar-end _ _ _ _ (drop c.loop-k.k c.args.selectors.now) (drop c.loop-k.k c.args.others.now) _ _
          (drop_all c.loop-k.k c.args.selectors.now (subst (λ (n : ℕ). n ≤ c.loop-k.k) (sym c.requires.long) c.loop-k-test.false)) c.loop-k.invariant;
      kept = c.loop-k.invariant.grows;
    }
