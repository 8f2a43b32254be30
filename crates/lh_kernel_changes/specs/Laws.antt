-- What follows where signals have the same bits in two frames, and where they have.
use Rattle.std.specs.Prelude.{ℕ, ◌≡◌, Bool, false, List, length}
use Rattle.std.specs.List.{list_any}
use Rattle.lh_types.specs.declared.part.Range.{Range}
use Rattle.lh_bits.specs.Writes.{written}
use Rattle.lh_unit.specs.World.{bit_at, bit_numbers, bit_differs}
use Rattle.lh_kernel_wakes.specs.Rising.{IsOneOf}
use Rattle.lh_design.specs.declared.Signal.{Signal}
use Rattle.lh_design.specs.Filling.{FillFrom}
use Rattle.lh_kernel_changes.specs.Touched.{Touches, AreWithin, bits_named, StaysSame, OthersStay}

-- where each signal that has a bit of the parts has the same bits in both, no bit of the parts differs
abbrev pub PartsStay : Type 0
PartsStay = (signals : List Signal) (width : ℕ) (parts : List Range) (old now : List Bool) → FillFrom 0 signals width → AreWithin width parts →
    ((k : ℕ) → Touches signals (bit_numbers parts) k → StaysSame signals old now k) → list_any (bit_differs old now) (bit_numbers parts) ≡ false

-- where no bit changes but some of these, each signal stays that has none of these
abbrev pub OnlyTouchedChange : Type 0
OnlyTouchedChange = (signals : List Signal) (bits touched : List ℕ) (old now : List Bool) → ((b : ℕ) → ¬ IsOneOf b bits → bit_at old b ≡ bit_at now b) →
    ((k : ℕ) → Touches signals bits k → IsOneOf k touched) → OthersStay signals touched old now

-- what is written changes only signals that have one of the bits that the writes name
abbrev pub OnlyWrittenChange : Type 0
OnlyWrittenChange = (signals : List Signal) (writes : List (ℕ × Bool)) (touched : List ℕ) (bits : List Bool) →
    ((k : ℕ) → Touches signals (bits_named writes) k → IsOneOf k touched) → OthersStay signals touched bits (written writes bits)

-- where all signals have the same bits in both, all bits are the same
abbrev pub SignalsAreAll : Type 0
SignalsAreAll = (signals : List Signal) (width : ℕ) (old now : List Bool) → FillFrom 0 signals width → length old ≡ width → length now ≡ width →
    ((k : ℕ) → StaysSame signals old now k) → old ≡ now
