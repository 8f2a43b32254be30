-- The shape of a flat text by its regions, or by the reason why it has none.
use Rattle.std.proofs.Common.{◌≡◌, List, refl, sym, subst}
use Rattle.std.specs.Prelude.{Ok}
use Rattle.lh_term.specs.declared.term.TermNode.{TermNode}
use Rattle.lh_region_def.specs.Regions.{Regions as RegionsOf, RegionRefusal, Regioned, no_regions}
use Rattle.lh_region.specs.Stands.{AreRegions, RegionsOrReason}
use Rattle.lh_region.specs.declared.rows.Regions.{Regions}
use Rattle.lh_shape.specs.Answers.{IsShape}
use Rattle.lh_shape.specs.Reasons.{region_reason}
use Rattle.lh_shape.specs.Shapes.{shape_by_rows, shape_by_regions}
use Rattle.lh_shape.specs.declared.kinds.Shape.{Shape}
use Rattle.lh_shape.specs.declared.kinds.Shape.TheVariants as kind

-- by the rows of regions that stand for those of the definition
pub by-regions : (ns ms : List TermNode) (r : Regions) (s : Shape) (x : Regioned) → RegionsOrReason ns x (Ok r) → ((y : RegionsOf) → AreRegions ns r y → IsShape ms s (shape_by_rows y))
    → IsShape ms s (shape_by_regions x)
by-regions ns ms r s x a h = subst (λ (z : Regioned). IsShape ms s (shape_by_regions z)) (sym a.1) (h a.0 a.2)

-- the process stays, where there are no regions
pub by-refusal : (ms : List TermNode) (x : Regioned) (r : RegionRefusal) → x ≡ no_regions r → IsShape ms (kind.Left (region_reason r)) (shape_by_regions x)
by-refusal ms x r e = subst (λ (z : Regioned). IsShape ms (kind.Left (region_reason r)) (shape_by_regions z)) (sym e) refl
