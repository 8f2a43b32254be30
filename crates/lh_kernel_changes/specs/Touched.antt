-- Which signals have which bits, and which of them have the same bits in two frames.
use Rattle.std.specs.Prelude.{ℕ, ◌≡◌, ◌+◌, ◌<◌, ◌≤◌, ◌⊎◌, ◌↔◌, Bool, true, List, [], ◌∷◌, length, map, slice_get}
use Rattle.std.specs.List.{list_any}
use Rattle.std.specs.Option.{IsSomeAnd}
use Rattle.lh_types.specs.Types.{bit_count}
use Rattle.lh_types.specs.declared.part.Range.{Range}
use Rattle.lh_unit.specs.World.{bit_at, bits_from, bit_differs}
use Rattle.lh_kernel_wakes.specs.Rising.{IsOneOf}
use Rattle.lh_design.specs.declared.Signal.{Signal}

-- it is a bit of the signal
abbrev pub IsBitOf : Signal → ℕ → Type 0
IsBitOf s b = (s.lo ≤ b) × (b < s.lo + bit_count s.ty)

-- the signal of this number has the bit
abbrev pub SignalHasBit : List Signal → (signal bit : ℕ) → Type 0
SignalHasBit signals k b = IsSomeAnd (slice_get signals k) (λ (s : Signal). IsBitOf s b)

-- the signal of this number has one of these bits
pub record Touches (signals : List Signal) (bits : List ℕ) (k : ℕ) : Type 0 where
  pub bit : ℕ
  pub among : IsOneOf bit bits
  pub has : SignalHasBit signals k bit

-- exactly the signals that have one of these bits
abbrev pub AreTouched : List Signal → (bits touched : List ℕ) → Type 0
AreTouched signals bits touched = (k : ℕ) → IsOneOf k touched ↔ Touches signals bits k

-- the new list has the signals that have one of these bits, and what the old one has
abbrev pub TouchesMore : List Signal → (bits old new : List ℕ) → Type 0
TouchesMore signals bits old new = (k : ℕ) → IsOneOf k new ↔ (Touches signals bits k ⊎ IsOneOf k old)

-- these are numbers of signals
abbrev pub AreSignals : List Signal → List ℕ → Type 0
AreSignals signals numbers = (k : ℕ) → IsOneOf k numbers → k < length signals

-- the parts lie within this many bits
abbrev pub AreWithin : (width : ℕ) → List Range → Type 0
AreWithin width [] = Unit {0}
AreWithin width (r ∷ more) = (r.lo + r.len ≤ width) × AreWithin width more

-- the bits that writes name
abbrev pub bits_named : List (ℕ × Bool) → List ℕ
bits_named writes = map (λ (w : ℕ × Bool). w.0) writes

-- each bit of the signal of this number is the same in both
abbrev pub StaysSame : List Signal → (old now : List Bool) → (signal : ℕ) → Type 0
StaysSame signals old now k = (b : ℕ) → SignalHasBit signals k b → bit_at old b ≡ bit_at now b

-- the part is all that the signal of this number has
abbrev pub IsWholeSignal : List Signal → (signal : ℕ) → Range → Type 0
IsWholeSignal signals k r = IsSomeAnd (slice_get signals k) (λ (s : Signal). (r.lo ≡ s.lo) × (r.len ≡ bit_count s.ty))

-- some bit of the part differs
abbrev pub PartDiffers : (old now : List Bool) → Range → Type 0
PartDiffers old now r = list_any (bit_differs old now) (bits_from r.lo r.len) ≡ true

-- each signal that is not among these has the same bits in both
abbrev pub OthersStay : List Signal → (touched : List ℕ) → (old now : List Bool) → Type 0
OthersStay signals touched old now = (k : ℕ) → ¬ IsOneOf k touched → StaysSame signals old now k
