-- Rows by ids, as rows of terms; and what the regions of a flat text are by ids.
use Rattle.std.specs.Prelude.{◌≡◌, List, [], ◌∷◌, Option, Some, None, Result, Ok, Err}
use Rattle.std.specs.Option.{option_map_or}
use Rattle.lh_unit.specs.Within.{Each}
use Rattle.lh_term.specs.declared.term.TermNode.{TermNode}
use Rattle.lh_term.specs.Arena.{trees, tree_at, IsIn, StandsForTree}
use Rattle.lh_region_def.specs.Rows as text
use Rattle.lh_region_def.specs.Regions as texts
use Rattle.lh_region_def.specs.Typed.{IsOfType}
use Rattle.lh_region_joins.specs.Joins.{IsConditionAt, AreTerms}
use Rattle.lh_region_def.specs.Regions.{RegionRefusal, head_phi, too_many_turns, region_too_large, Regioned, no_regions, has_regions}
use Rattle.lh_region.specs.declared.rows.Way.{Way}
use Rattle.lh_region.specs.declared.rows.Way.TheVariants as way
use Rattle.lh_region.specs.declared.rows.DriveRow.{DriveRow}
use Rattle.lh_region.specs.declared.rows.EndRow.{EndRow}
use Rattle.lh_region.specs.declared.rows.Rows.{Rows}
use Rattle.lh_region.specs.declared.rows.Regions.{Regions}
use Rattle.lh_region.specs.declared.rows.RegionFault.{RegionFault}
use Rattle.lh_region.specs.declared.rows.RegionFault.TheVariants as fault

-- the drive is that one
pub record IsDrive (ns : List TermNode) (d : DriveRow) (x : text.Drive) : Type 0 where
  pub cond : StandsForTree ns d.cond x.cond
  pub part : d.part ≡ x.part
  pub value : StandsForTree ns d.value x.value
  pub delay : StandsForTree ns d.delay x.delay

-- the drives are those, one by one
abbrev pub AreDrives : List TermNode → List DriveRow → List text.Drive → Type 0
AreDrives ns [] [] = Unit {0}
AreDrives ns (d ∷ ds) (x ∷ xs) = IsDrive ns d x × AreDrives ns ds xs
AreDrives ns _ _ = ⊥

-- how a region ends, where blocks have the numbers of their places
abbrev pub way_text : Way → text.Way
way_text way.Halt = text.halts
way_text way.Head = text.enters_head
way_text (way.Wait target to_head parts timed) = text.waits target to_head parts timed

-- the end is that one; what is known there is not kept
pub record IsEnd (ns : List TermNode) (e : EndRow) (x : text.RegionEnd) : Type 0 where
  pub cond : StandsForTree ns e.cond x.cond
  pub way : way_text e.way ≡ x.way

abbrev pub AreEnds : List TermNode → List EndRow → List text.RegionEnd → Type 0
AreEnds ns [] [] = Unit {0}
AreEnds ns (e ∷ es) (x ∷ xs) = IsEnd ns e x × AreEnds ns es xs
AreEnds ns _ _ = ⊥

-- the rows are those
pub record AreRows (ns : List TermNode) (r : Rows) (x : text.Rows) : Type 0 where
  pub probes : r.probes ≡ x.probes
  pub drives : AreDrives ns r.drives x.drives
  pub asserts : AreTerms ns r.asserts x.asserts
  pub ends : AreEnds ns r.ends x.ends

-- so are those of the second region, where it is built
abbrev pub MaybeRows : List TermNode → Option Rows → Option text.Rows → Type 0
MaybeRows ns None None = Unit {0}
MaybeRows ns (Some r) (Some x) = AreRows ns r x
MaybeRows ns _ _ = ⊥

pub record AreRegions (ns : List TermNode) (r : Regions) (x : texts.Regions) : Type 0 where
  pub first : AreRows ns r.first x.first
  pub second : MaybeRows ns r.second x.second

-- the reason that a fault tells; none when memory runs out
abbrev pub refusal_of : RegionFault → Option RegionRefusal
refusal_of fault.HeadPhi = Some head_phi
refusal_of fault.TooManyTurns = Some too_many_turns
refusal_of fault.RegionTooLarge = Some region_too_large
refusal_of fault.OutOfMemory = None

abbrev pub IsRefused : Regioned → Option RegionRefusal → Type 0
IsRefused x None = Unit {0}
IsRefused x (Some r) = x ≡ no_regions r

-- The answer is the regions of the definition, or the reason why there are none.
abbrev pub RegionsOrReason : List TermNode → Regioned → Result Regions RegionFault → Type 0
RegionsOrReason ns x (Ok r) = (y : texts.Regions) × (x ≡ has_regions y) × AreRegions ns r y
RegionsOrReason ns x (Err e) = IsRefused x (refusal_of e)

-- ---- what is asked of the terms of rows

-- the terms of a drive are of the arena: its condition is of one bit, and its value of the part's type
pub record DriveRowFits (ns : List TermNode) (d : DriveRow) : Type 0 where
  pub cond : IsConditionAt ns d.cond
  pub value_in : IsIn ns d.value
  pub value : IsOfType d.part.ty (tree_at (trees ns) d.value)
  pub delay_in : IsIn ns d.delay

abbrev pub DrivesFit : List TermNode → List DriveRow → Type 0
DrivesFit ns ds = Each (DriveRowFits ns) ds

-- the drives of the second region; none where it is not built
abbrev pub later_drives : Regions → List DriveRow
later_drives r = option_map_or (λ (s : Rows). s.drives) r.second []

-- the drives of both regions are of the arena
pub record RegionsFit (ns : List TermNode) (r : Regions) : Type 0 where
  pub first : DrivesFit ns r.first.drives
  pub second : DrivesFit ns (later_drives r)
