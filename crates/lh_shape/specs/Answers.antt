-- Shapes by ids, as shapes of terms.
use Rattle.std.specs.Prelude.{◌≡◌, List, [], ◌∷◌, ◌++◌, Bool, true, false, map, Some, None, Result, Ok, Err}
use Rattle.lh_term.specs.declared.part.Part.{Part}
use Rattle.lh_term.specs.declared.term.TermNode.{TermNode}
use Rattle.lh_term.specs.Arena.{trees, tree_at, IsIn, StandsForTree}
use Rattle.lh_edge.specs.Shown.{has_too_many_atoms, is_edge_shown}
use Rattle.lh_edge.specs.Triggers.{EdgeRowTree}
use Rattle.lh_edge.specs.Answers.{AreTriggers, TriggersOrFault}
use Rattle.lh_edge.specs.declared.triggers.EdgeFault.{EdgeFault}
use Rattle.lh_edge.specs.declared.triggers.EdgeFault.TheVariants.{TooManyAtoms, NoEdge}
use Rattle.lh_edge.specs.declared.triggers.EdgeRow.{EdgeRow}
use Rattle.lh_edge.specs.declared.triggers.Trigger.{Trigger}
use Rattle.lh_region_def.specs.Rows.{Drive}
use Rattle.lh_region.specs.Stands.{AreDrives}
use Rattle.lh_region.specs.declared.rows.DriveRow.{DriveRow}
use Rattle.lh_shape.specs.ByIds.{drives_at}
use Rattle.lh_shape.specs.Merging.{merged_drives}
use Rattle.lh_shape.specs.Reasons.{trigger_reasons, first_holding}
use Rattle.lh_shape.specs.Shapes.{ShapeText, comb, edge, once, left, edge_row}
use Rattle.lh_shape.specs.declared.kinds.Shape.{Shape}
use Rattle.lh_shape.specs.declared.kinds.Shape.TheVariants as kind
use Rattle.lh_shape.specs.declared.shape.Added.{Added}
use Rattle.lh_shape.specs.declared.shape.Added.TheVariants as added
use Rattle.lh_shape.specs.declared.shape.Found.{Found}
use Rattle.lh_shape.specs.declared.shape.Registers.{Registers}
use Rattle.lh_shape.specs.declared.shape.Registers.TheVariants as registers

-- the row of registers is that one
pub record IsEdgeRow (ns : List TermNode) (r : EdgeRow) (x : EdgeRowTree) : Type 0 where
  pub part : r.part ≡ x.part
  pub value : StandsForTree ns r.value x.value
  pub delay : StandsForTree ns r.delay x.delay
  pub triggers : AreTriggers ns r.triggers x.triggers

-- the rows are those, one by one
abbrev pub AreEdgeRows : List TermNode → List EdgeRow → List EdgeRowTree → Type 0
AreEdgeRows ns [] [] = Unit {0}
AreEdgeRows ns (r ∷ rs) (x ∷ xs) = IsEdgeRow ns r x × AreEdgeRows ns rs xs
AreEdgeRows ns _ _ = ⊥

-- The shape is that one.
abbrev pub IsShape : List TermNode → Shape → ShapeText → Type 0
IsShape ns (kind.Comb waited ds) (comb on xs) = (waited ≡ on) × AreDrives ns ds xs
IsShape ns (kind.Edge rs) (edge xs) = AreEdgeRows ns rs xs
IsShape ns (kind.Once ds) (once xs) = AreDrives ns ds xs
IsShape ns (kind.Left r) (left x) = r ≡ x
IsShape ns _ _ = ⊥

-- ---- what the calls compute on the way

-- combinational with the merged drives, where the region waits for the head; else these registers
abbrev pub IsShapeOf : Bool → (old new : List TermNode) → (waited : List Part) → List DriveRow → List EdgeRow → Shape → Type 0
IsShapeOf true old new waited ds rs s = IsShape new s (comb waited (merged_drives (drives_at old ds)))
IsShapeOf false old new waited ds rs s = s ≡ kind.Edge rs

-- the condition of a drive has few atoms and is edge-shown
pub record ShowsEdge (waited : List Part) (d : Drive) : Type 0 where
  pub few : has_too_many_atoms d.cond ≡ false
  pub shown : is_edge_shown waited d.cond ≡ true

-- a row of registers was added
pub record AddsRow (ns : List TermNode) (old : List EdgeRow) (x : EdgeRowTree) (new : List EdgeRow) : Type 0 where
  pub row : EdgeRow
  pub added : new ≡ old ++ row ∷ []
  pub is : IsEdgeRow ns row x

-- the row of a drive was added; or its condition is not edge-shown; or it has too many atoms
abbrev pub EdgeRowOrReason : List TermNode → (waited : List Part) → Drive → (old : List EdgeRow) → Added → (new : List EdgeRow) → Type 0
EdgeRowOrReason ns waited d old added.Row new = ShowsEdge waited d × AddsRow ns old (edge_row waited d) new
EdgeRowOrReason ns waited d old added.Hidden new = (has_too_many_atoms d.cond ≡ false) × (is_edge_shown waited d.cond ≡ false)
EdgeRowOrReason ns waited d old added.TooMany new = has_too_many_atoms d.cond ≡ true

-- what was found for a condition of the arena is what its analysis gives
pub record Finds (ns : List TermNode) (waited : List Part) (f : Found) : Type 0 where
  pub is_in : IsIn ns f.cond
  pub triggers : TriggersOrFault ns waited (tree_at (trees ns) f.cond) f.triggers

-- the row of a drive with the triggers that were found was added; or none, for the fault that was found
abbrev pub AddsFound : DriveRow → Result (List Trigger) EdgeFault → (old : List EdgeRow) → Added → (new : List EdgeRow) → Type 0
AddsFound d (Ok ts) old added.Row new = new ≡ old ++ record { part = d.part; value = d.value; delay = d.delay; triggers = ts } ∷ []
AddsFound d (Err NoEdge) old added.Hidden new = Unit {0}
AddsFound d (Err TooManyAtoms) old added.TooMany new = Unit {0}
AddsFound d _ old _ new = ⊥

-- no reason holds, and the rows are those of the drives
pub record GivesRows (ns : List TermNode) (waited : List Part) (ds : List Drive) (rs : List EdgeRow) : Type 0 where
  pub none : first_holding (trigger_reasons waited ds) ≡ None
  pub rows : AreEdgeRows ns rs (map (edge_row waited) ds)

-- the rows of drives, or the first reason that their conditions give
abbrev pub AreRegisters : List TermNode → (waited : List Part) → List Drive → Registers → Type 0
AreRegisters ns waited ds (registers.Rows rs) = GivesRows ns waited ds rs
AreRegisters ns waited ds (registers.Left r) = first_holding (trigger_reasons waited ds) ≡ Some r
