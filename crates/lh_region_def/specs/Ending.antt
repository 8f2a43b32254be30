-- Where a process stands that came to an end of a region.
use Rattle.std.specs.Prelude.{◌≡◌, ℕ, List, map, false, Option, Some, None, slice_get}
use Rattle.lh_time.specs.declared.Instant.{Instant}
use Rattle.lh_types.specs.declared.part.Range.{Range}
use Rattle.lh_unit.specs.Activation as machine
use Rattle.lh_unit.specs.Activation.{Stand}
use Rattle.lh_flat.specs.Flat.{FlatBlockText}
use Rattle.lh_region_def.specs.Rows.{Way, halts, enters_head, waits}
use Rattle.lh_region_def.specs.Means.{range_in}

-- where a process stands that came to the end of this way from the block of a label: halted, or at a `wait` for the block on the bits of the parts, and for no time unless one is named
abbrev pub StandsAs : List FlatBlockText → List Range → Way → (from : List ℕ) → Stand → Type 0
StandsAs blocks args halts from st = st ≡ machine.halted
StandsAs blocks args enters_head from st = ⊥
StandsAs blocks args (waits to to_head parts timed) from st =
    (c : FlatBlockText) × (slice_get blocks to ≡ Some c) × (wake : Option Instant) × (st ≡ machine.waits from c.label (map (range_in args) parts) wake) × (timed ≡ false → wake ≡ None)
