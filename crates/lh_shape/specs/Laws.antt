-- The laws of merged drives.
use Rattle.std.specs.Prelude.{◌≡◌, List}
use Rattle.lh_time.specs.declared.Instant.{Instant}
use Rattle.lh_types.specs.Wish.{Wish}
use Rattle.lh_types.specs.declared.part.Range.{Range}
use Rattle.lh_unit.specs.Within.{Each}
use Rattle.lh_term.specs.Mean.{Valuation, IsFitting}
use Rattle.lh_term.specs.declared.part.Part.{Part}
use Rattle.lh_region_def.specs.Rows.{Drive}
use Rattle.lh_region_def.specs.Means.{with_rows}
use Rattle.lh_region_def.specs.Right.{DriveTyped}
use Rattle.lh_shape.specs.Merging.{merged_drives}
use Rattle.lh_shape.specs.Reading.{ReadAmong, DriveAmong}

-- Merged drives wish what the drives wish.
abbrev pub MergedDrivesWish : Type 0
MergedDrivesWish = (past now : Valuation) → IsFitting past → IsFitting now → (args : List Range) (at : Instant) (w : Wish) (ds : List Drive) → Each DriveTyped ds →
    with_rows past now args at w (merged_drives ds) ≡ with_rows past now args at w ds

-- Merged drives are typed, where the drives are.
abbrev pub MergedDrivesAreTyped : Type 0
MergedDrivesAreTyped = (ds : List Drive) → Each DriveTyped ds → Each DriveTyped (merged_drives ds)

-- Merged drives read no part that none of the drives reads.
abbrev pub MergedDrivesRead : Type 0
MergedDrivesRead = (ps : List Part) (ds : List Drive) → ReadAmong ps ds → ReadAmong ps (merged_drives ds)

-- Merged drives drive no part that none of the drives drives.
abbrev pub MergedDrivesDrive : Type 0
MergedDrivesDrive = (ps : List Part) (ds : List Drive) → DriveAmong ps ds → DriveAmong ps (merged_drives ds)
