-- Both regions of a process: the one from the head on, and the one from where that waits.
use Rattle.std.specs.Prelude.{◌≡◌, ℕ, List, true, false, Some, length, slice_get}
use Rattle.lh_unit_names.specs.declared.name.UnitName.{UnitName}
use Rattle.lh_unit.specs.Naming.{Naming}
use Rattle.lh_flat.specs.declared.flat.FlatBlock.{FlatBlock}
use Rattle.lh_flat.specs.Reads.{flat_text}
use Rattle.lh_flat_parts.specs.Steps.{IsPartTable}
use Rattle.lh_term.specs.Tree.{now_of}
use Rattle.lh_term.specs.Make.{bit_of}
use Rattle.lh_term.specs.Arena.{StandsForTree}
use Rattle.lh_term.specs.declared.term.TermNode.{TermNode}
use Rattle.lh_region_def.specs.Regions.{Course, comes_to, first_region, second_region, one_target}
use Rattle.lh_region_walk.specs.declared.walk.Region.{Region}
use Rattle.lh_region_walk.specs.declared.walk.Walk.{Walk}
use Rattle.lh_region_walk.specs.declared.walk.WalkPoint.{WalkPoint}
use Rattle.lh_region_places.specs.declared.state.PlaceState.{PlaceState}
use Rattle.lh_region.specs.Begins.{IsBegun, BeginsJoined}
use Rattle.lh_region.specs.declared.rows.Rows.{Rows}
use Rattle.lh_region.specs.declared.rows.RegionFault.{RegionFault}
use Rattle.lh_region.specs.Effects.{probed}
use Rattle.lh_region.specs.Forms.{HasForm}
use Rattle.lh_region.specs.Heads.{head_in, begins_with_phi}
use Rattle.lh_region.specs.Stands.{AreRows, DrivesFit, refusal_of}
use Rattle.lh_region_walk.specs.Walked.{IsRegion, StopsFor}
use Rattle.lh_region_walk.specs.Turns.{Comes}

-- by some names it is a region of a formed flat text
pub record HasRegion (r : Region) : Type 0 where
  pub naming : Naming
  pub region : IsRegion naming r

-- the region of a formed flat text
pub record IsHere (r : Region) : Type 0 where
  pub form : HasForm r.flat.now
  pub table : IsPartTable r.flat.now r.parts.now
  pub head : r.head ≡ head_in r.flat.now.blocks
  pub plain : (b : FlatBlock) → slice_get r.flat.now.blocks r.head ≡ Some b → begins_with_phi b ≡ false
  pub now : r.is_past ≡ false

-- The walk has gone through the first region as the definition does.
abbrev pub GoesFirst : Region → List TermNode → Walk → Type 0
GoesFirst r ns w = (f : Naming) (name : UnitName) → IsRegion f r → (turns : ℕ) × Comes ns f name r w turns 0 (first_region (flat_text f r.flat.now) (probed r.is_past))

-- The rows are those of a walk that has gone so.
pub record FirstRows (r : Region) (ns : List TermNode) (rows : Rows) : Type 0 where
  pub walk : Walk
  pub gone : GoesFirst r ns walk
  pub is : rows ≡ walk.rows

-- Where it does not, the definition stops for that reason.
abbrev pub FirstStops : Region → RegionFault → Type 0
FirstStops r e = (f : Naming) → IsRegion f r → StopsFor (first_region (flat_text f r.flat.now) (probed r.is_past)) (refusal_of e)

-- all ends of the first region wait for this block
pub record IsTarget (f : Naming) (r : Region) (target : ℕ) : Type 0 where
  pub course : Course
  pub comes : first_region (flat_text f r.flat.now) now_of ≡ comes_to course
  pub one : one_target course.rows.ends ≡ Some target

pub record HasTarget (r : Region) (target : ℕ) : Type 0 where
  pub naming : Naming
  pub region : IsRegion naming r
  pub is : IsTarget naming r target

-- Behind the places of a walk begins one of the target of its ends, which the walk is at in its first turn.
pub record SecondPlaceIsBehind (w : Walk) (target : ℕ) (ns : List TermNode) (qs : List PlaceState) (at : WalkPoint) : Type 0 where
  pub begun : IsBegun w.places.items target w.sources qs
  pub joins : BeginsJoined w.places.items w.sources qs
  pub place : at.place ≡ length w.places.items
  pub block : at.block ≡ target
  pub turns : at.turns ≡ 0
  pub cond : StandsForTree ns at.cond (bit_of true)

-- The rows are those of the second region.
abbrev pub SecondRows : Region → (target : ℕ) → List TermNode → Rows → Type 0
SecondRows r target ns rows = (f : Naming) → IsRegion f r → IsTarget f r target → (d : Course) × (second_region (flat_text f r.flat.now) target ≡ comes_to d) × AreRows ns rows d.rows
    × DrivesFit ns rows.drives

abbrev pub SecondStops : Region → (target : ℕ) → RegionFault → Type 0
SecondStops r target e = (f : Naming) → IsRegion f r → IsTarget f r target → StopsFor (second_region (flat_text f r.flat.now) target) (refusal_of e)
