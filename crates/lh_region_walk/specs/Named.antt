-- What is known has a name that has a type: on edges, and at the ends of a region.
use Rattle.std.specs.Prelude.{◌≡◌, ℕ, List, Some, IsSome}
use Rattle.lh_unit.specs.Contents.{UnitText}
use Rattle.lh_unit.specs.Typing.{value_type}
use Rattle.lh_unit.specs.Within.{Each}
use Rattle.lh_region_def.specs.Known.{Known, Knowledge}
use Rattle.lh_region_def.specs.Rows.{RegionEnd}
use Rattle.lh_region_def.specs.Joins.{RegionEdge}
use Rattle.lh_region_def.specs.Regions.{Course}

-- each name under which something is known has a type
abbrev pub KnowsNamed : UnitText → Knowledge → Type 0
KnowsNamed u k = (n : List ℕ) (x : Known) → k n ≡ Some x → IsSome (value_type u n)

-- so it is on these edges
abbrev pub EdgesNamed : UnitText → List RegionEdge → Type 0
EdgesNamed u es = Each (λ (e : RegionEdge). KnowsNamed u e.known) es

-- so it is on all edges and at all ends so far
pub record CourseNamed (u : UnitText) (c : Course) : Type 0 where
  pub edges : EdgesNamed u c.edges
  pub ends : Each (λ (x : RegionEnd). KnowsNamed u x.known) c.rows.ends
