-- What is right of a region's edges, ends and drives: their terms are typed, and an edge may join the others that lead to its place.
use Rattle.std.specs.Prelude.{◌≡◌, ℕ, ◌≤◌, List, true, Option, Some, IsSome, slice_get}
use Rattle.lh_types.specs.Types.{time_type, IsData}
use Rattle.lh_unit.specs.Contents.{InstText, phi_text, LineText, UnitText, is_result_name}
use Rattle.lh_unit.specs.Within.{Each}
use Rattle.lh_flat.specs.Flat.{FlatBlockText, as_block}
use Rattle.lh_region_def.specs.Known.{Knowledge}
use Rattle.lh_region_def.specs.Rows.{Drive, Way, halts, enters_head, waits, RegionEnd}
use Rattle.lh_region_def.specs.Joins.{RegionEdge}
use Rattle.lh_region_def.specs.Places.{Region, block_number}
use Rattle.lh_region_def.specs.Regions.{max_turns, Course}
use Rattle.lh_region_def.specs.Typed.{KnowsTyped, IsCondition, IsOfType, JoinEdge}

-- the block of a number, to which its label leads
pub record BlockAt (blocks : List FlatBlockText) (i : ℕ) (b : FlatBlockText) : Type 0 where
  pub at : slice_get blocks i ≡ Some b
  pub number : block_number b.label blocks ≡ Some i

-- what a `phi` that is still to come gives is known already
abbrev pub PhiGiven : Knowledge → InstText → Option (List ℕ) → Type 0
PhiGiven k (phi_text ty es) r = (n : List ℕ) → is_result_name n r ≡ true → IsSome (k n)
PhiGiven k _ r = Unit {0}

abbrev pub PhisGiven : Knowledge → List LineText → Type 0
PhisGiven k ls = Each (λ (l : LineText). PhiGiven k l.inst l.result) ls

-- an edge from this block with this known may join others at the block of a number
abbrev pub JoinsAt : UnitText → Region → ℕ → (from : List ℕ) → Knowledge → Type 0
JoinsAt u g i from k = (to : FlatBlockText) × BlockAt g.blocks i to × ((e : RegionEdge) → e.from ≡ from → e.known ≡ k → IsCondition e.cond → JoinEdge u (as_block to) e)

-- where a way leads
abbrev pub WayRight : UnitText → Region → Way → (from : List ℕ) → Knowledge → Type 0
WayRight u g halts from k = Unit {0}
WayRight u g enters_head from k = JoinsAt u g g.head from k
WayRight u g (waits target to_head parts timed) from k = JoinsAt u g target from k

-- an edge of a region that leads to a place
pub record EdgeFine (u : UnitText) (g : Region) (e : RegionEdge) : Type 0 where
  pub cond : IsCondition e.cond
  pub turns : e.to.turns ≤ max_turns
  pub joins : JoinsAt u g e.to.block e.from e.known

pub record EndFine (u : UnitText) (g : Region) (x : RegionEnd) : Type 0 where
  pub cond : IsCondition x.cond
  pub known : KnowsTyped u x.known
  pub way : WayRight u g x.way x.from x.known

-- a drive of a region is typed
pub record DriveTyped (d : Drive) : Type 0 where
  pub cond : IsCondition d.cond
  pub part : IsData d.part.ty
  pub value : IsOfType d.part.ty d.value
  pub delay : IsOfType time_type d.delay

-- All that places have added so far is right.
pub record CourseFine (u : UnitText) (g : Region) (c : Course) : Type 0 where
  pub edges : Each (EdgeFine u g) c.edges
  pub ends : Each (EndFine u g) c.rows.ends
  pub drives : Each DriveTyped c.rows.drives
