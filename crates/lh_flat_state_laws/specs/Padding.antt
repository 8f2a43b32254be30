-- Bits that are missing count as 0: with more zeros behind the bits of the signals nothing is read or done otherwise.
use Rattle.std.specs.Prelude.{◌≡◌, ℕ, ◌+◌, max, List, [], ◌∷◌, ◌++◌, length, map, replicate, Bool, false, Option}
use Rattle.lh_time.specs.declared.Instant.{Instant}
use Rattle.lh_types.specs.Types.{TypeTree, bit_count}
use Rattle.lh_types.specs.Bits.{value_from_bits}
use Rattle.lh_types.specs.declared.part.Range.{Range}
use Rattle.lh_unit.specs.Contents.{OperandText, ArgText, UnitText}
use Rattle.lh_unit.specs.Held.{Env, bits_in}
use Rattle.lh_unit.specs.Effects.{probed}
use Rattle.lh_unit.specs.Activation.{Scene, ProcessState, Point, step, activate}
use Rattle.lh_unit.specs.Pass.{pass}
use Rattle.lh_unit.specs.World.{bit_at}
use Rattle.lh_eval_laws.specs.Ranges.{RangesFit, arg_types}

-- bits with n zeros behind them
abbrev pub padded : List Bool → ℕ → List Bool
padded bits n = bits ++ replicate n false

-- what an activation sees, with n zeros behind the bits of the signals
abbrev pub with_zeros : Scene → ℕ → Scene
with_zeros s n = record s { now = padded s.now n }

-- The bit of each number is the same.
abbrev pub PaddedBits : Type 0
PaddedBits = (bits : List Bool) (n k : ℕ) → bit_at bits k ≡ bit_at (padded bits n) k

-- The value of each type that the bits have is the same.
abbrev pub PaddedValues : Type 0
PaddedValues = (t : TypeTree) (bits : List Bool) (n : ℕ) → value_from_bits t bits ≡ value_from_bits t (padded bits n)

-- So is the value that a part of the signals has.
abbrev pub PaddedParts : Type 0
PaddedParts = (t : TypeTree) (now : List Bool) (r : Range) (n : ℕ) → value_from_bits t (bits_in now r) ≡ value_from_bits t (bits_in (padded now n) r)

-- So is what a probe gives.
abbrev pub PaddedProbes : Type 0
PaddedProbes = (now : List Bool) (e : Env) (s : OperandText) (n : ℕ) → probed now e s ≡ probed (padded now n) e s

-- Each instruction of a function or a process leads to the same.
abbrev pub PaddedSteps : Type 0
PaddedSteps = (s : Scene) (n : ℕ) (p : Point) → step s p ≡ step (with_zeros s n) p

-- Each activation is the same.
abbrev pub PaddedActivations : Type 0
PaddedActivations = (bound : ℕ) (s : Scene) (n : ℕ) (u : UnitText) (p : ProcessState) → activate bound s u p ≡ activate bound (with_zeros s n) u p

-- Each pass of an entity is the same.
abbrev pub PaddedPasses : Type 0
PaddedPasses = (u : UnitText) (args sigs : List Range) (now : List Bool) (n : ℕ) (memory : Option (List Bool)) (t : Instant) → pass u args sigs now memory t ≡ pass u args sigs (padded now n) memory t

-- so many bits hold all of the ranges
abbrev pub reach : List Range → ℕ
reach [] = 0
reach (r ∷ more) = max (r.lo + r.len) (reach more)

-- the arguments of a unit have the widths of their types
abbrev pub HaveWidths : List Range → List ArgText → Type 0
HaveWidths args xs = map (λ (r : Range). r.len) args ≡ map (λ (x : ArgText). bit_count x.ty) xs

-- With as many zeros as the arguments reach over, or more, they lie within the bits.
abbrev pub PaddedRanges : Type 0
PaddedRanges = (args : List Range) (xs : List ArgText) (now : List Bool) (n : ℕ) → HaveWidths args xs → RangesFit (length (padded now (reach args + n))) args (arg_types xs)
