use Rattle.std.proofs.Common.{List, drop, ◌+◌, sym, subst}
use Rattle.std.proofs.lemmas.List.{drop_all}
use Rattle.lh_unit.specs.Within.{Each}
use Rattle.lh_term.specs.Arena.{StandsForTree, trees_at}
use Rattle.lh_term.specs.Conjuncts.{conjunction}
use Rattle.lh_term.specs.declared.term.TermId.{TermId}
use Rattle.lh_unit.proofs.Lists.{drop-item}
use Rattle.lh_region_joins.specs.Joins.{IsConditionAt, edges_on, after_first, AreOthers}
use Rattle.lh_region_joins.proofs.Selectors.{SelectorsSoFar, SelectorsSoFar-none, SelectorsSoFar-conds, SelectorsSoFar-next, SelectorsSoFar-end}
use Rattle.lh_region_joins.proofs.joins.selectors.Goals as goal

pub loop-conds-init : goal.loop-conds-init
loop-conds-init c =
    let ns = c.args.terms.now in let es = c.args.edges.now in
    subst (λ (x : List TermId). SelectorsSoFar ns ns (edges_on ns es) x c.as_slice-conds-items.result.now) (sym c.new-selectors.ensures)
    (SelectorsSoFar-none ns es c.as_slice-conds-items.result.now c.requires
    (subst (AreOthers ns (edges_on ns es) (after_first (edges_on ns es))) (sym c.as_slice-conds-items.ensures) c.in_ok-others.ensures))

pub conjunction-requires : goal.conjunction-requires
conjunction-requires c =
    let items = c.as_slice-conds-items.result.now in let i = c.loop-conds.conds-index in
    subst (Each (IsConditionAt c.loop-conds.terms)) (sym c.as_slice.ensures)
    (SelectorsSoFar-conds _ _ _ _ (drop i items) c.conds-item.result (drop (i + 1) items) (drop-item items i c.conds-item.result c.loop-conds-test.true c.conds-item.is) c.loop-conds.invariant)

pub loop-conds-preserved : goal.loop-conds-preserved
loop-conds-preserved c =
    let items = c.as_slice-conds-items.result.now in let i = c.loop-conds.conds-index in
    SelectorsSoFar-next _ _ _ _ _ _ (drop i items) c.conds-item.result (drop (i + 1) items) _ (drop-item items i c.conds-item.result c.loop-conds-test.true c.conds-item.is) c.in_ok-push.ensures.ok
    c.conjunction.ensures.kept
    (subst (λ (x : List TermId). StandsForTree c.conjunction.new.terms c.in_ok-conjunction.field-0 (conjunction (trees_at c.loop-conds.terms x))) c.as_slice.ensures c.in_ok-conjunction.ensures.made)
    c.loop-conds.invariant

pub returns : goal.returns
returns c =
    record {
      made = SelectorsSoFar-end _ _ _ _ (drop c.loop-conds.conds-index c.as_slice-conds-items.result.now) (drop_all c.loop-conds.conds-index c.as_slice-conds-items.result.now c.loop-conds-test.false)
          c.loop-conds.invariant;
      kept = c.loop-conds.invariant.grows;
    }
