use Rattle.std.proofs.Common.{◌≡◌, [], ◌∷◌, ◌∙◌, ap, sym, subst}
use Rattle.lh_unit.specs.Within.{Each}
use Rattle.lh_term.specs.Arena.{trees, tree_at, trees_at}
use Rattle.lh_term.specs.Conjuncts.{conjuncts_of, conjunction}
use Rattle.lh_term.specs.declared.term.TermId.{TermId}
use Rattle.lh_term.proofs.Swaps.{if_ok_along}
use Rattle.lh_region_joins.specs.Joins.{IsConditionAt}
use Rattle.lh_region_joins.specs.declared.edge.Edge.{Edge}
use Rattle.lh_region_joins.proofs.Conditions.{grows-none}
use Rattle.lh_shape.proofs.Merged.{beyond-all, one-edge, beyond-conditions}
use Rattle.lh_shape.proofs.merge.selector.Goals as goal

abbrev edge_of : TermId → Edge
edge_of t = record { from = 0; block = 0; cond = t }

pub conjunction-requires : goal.conjunction-requires
conjunction-requires c =
    let ns = c.args.terms.now in
    let told : trees_at ns c.in_ok-others.others ≡ beyond-all (tree_at (trees ns) c.args.first) (tree_at (trees ns) c.args.second) =
    c.in_ok-others.ensures.others (edge_of c.args.first ∷ []) c.in_ok-had.ensures ∙ one-edge (tree_at (trees ns) c.args.first) (conjuncts_of (tree_at (trees ns) c.args.second)) in
    subst (Each (IsConditionAt ns)) (sym c.as_slice.ensures) (beyond-conditions ns c.args.first c.args.second c.in_ok-others.others c.requires.second_is c.in_ok-others.ensures.within told)

pub returns-clause-made : goal.returns-clause-made
returns-clause-made c =
    let ns = c.args.terms.now in
    let told : trees_at ns c.in_ok-others.others ≡ beyond-all (tree_at (trees ns) c.args.first) (tree_at (trees ns) c.args.second) =
    c.in_ok-others.ensures.others (edge_of c.args.first ∷ []) c.in_ok-had.ensures ∙ one-edge (tree_at (trees ns) c.args.first) (conjuncts_of (tree_at (trees ns) c.args.second)) in
    if_ok_along c.conjunction.result _ _ _ (ap conjunction (ap (trees_at ns) c.as_slice.ensures ∙ told)) c.conjunction.ensures.made

pub returns-in_err-had-clause-kept : goal.returns-in_err-had-clause-kept
returns-in_err-had-clause-kept c = grows-none c.args.terms.now

pub returns-in_err-others-clause-kept : goal.returns-in_err-others-clause-kept
returns-in_err-others-clause-kept c = grows-none c.args.terms.now

pub returns-clause-kept : goal.returns-clause-kept
returns-clause-kept c = c.conjunction.ensures.kept
