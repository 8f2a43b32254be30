use Rattle.std.proofs.Common.{List, subst, ap, ◌∙◌}
use Rattle.lh_region_def.specs.Joins.{RegionEdge}
use Rattle.lh_region_joins.specs.Joins.{edges_on, AreOthers}
use Rattle.lh_region_joins.proofs.Selectors.{edges-later}
use Rattle.lh_region_joins.proofs.joins.others_of.Goals as goal

pub returns : goal.returns
returns c =
    let ns = c.args.terms.now in let all = c.args.edges.now in
    subst (λ (es : List RegionEdge). AreOthers ns (edges_on ns all) es c.in_ok-others.others) (ap (edges_on ns) c.later.ensures ∙ edges-later ns all)
    (c.in_ok-others.ensures all c.in_ok-shared.ensures)
