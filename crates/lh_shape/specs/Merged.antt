-- What the calls that merge drives compute on the way.
use Rattle.std.specs.Prelude.{◌≡◌, List, [], ◌∷◌, ◌++◌, Bool, true, false}
use Rattle.lh_term.specs.declared.term.TermNode.{TermNode}
use Rattle.lh_region_def.specs.Adjacent.{drive_merged}
use Rattle.lh_region.specs.Stands.{IsDrive}
use Rattle.lh_region.specs.declared.rows.DriveRow.{DriveRow}
use Rattle.lh_shape.specs.Merging.{are_alike}
use Rattle.lh_shape.specs.ByIds.{drive_at}

-- the last drive is that of both, if they are alike; else the one before was put to the others, and the last one is the new one
abbrev pub MergesDriveIf : Bool → (old new : List TermNode) → (merged : List DriveRow) → (last drive : DriveRow) → (more : List DriveRow) → (next : DriveRow) → Type 0
MergesDriveIf true old new merged last drive more next = (more ≡ merged) × IsDrive new next (drive_merged (drive_at old last) (drive_at old drive))
MergesDriveIf false old new merged last drive more next = (more ≡ merged ++ last ∷ []) × (next ≡ drive)

abbrev pub MergesDrive : (old new : List TermNode) → (merged : List DriveRow) → (last drive : DriveRow) → (more : List DriveRow) → (next : DriveRow) → Type 0
MergesDrive old new merged last drive more next = MergesDriveIf (are_alike (drive_at old last) (drive_at old drive)) old new merged last drive more next
