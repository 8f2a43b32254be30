-- What rows mean for an instance: the values that its parts have, what is held where something is known, and the wish of drives.
use Rattle.std.specs.Prelude.{◌≡◌, ℕ, ◌+◌, List, [], ◌∷◌, Bool, if◌then◌else◌, Option, Some, slice_get}
use Rattle.std.specs.Option.{option_and_then, option_map_or}
use Rattle.lh_time.specs.declared.Instant.{Instant}
use Rattle.lh_time.specs.Due.{due_of}
use Rattle.lh_types.specs.Types.{TypeTree, bit_count}
use Rattle.lh_types.specs.Values.{Datum}
use Rattle.lh_types.specs.Bits.{value_bits, value_from_bits}
use Rattle.lh_types.specs.Wish.{Wish, with_drive}
use Rattle.lh_types.specs.declared.part.Range.{Range}
use Rattle.lh_unit.specs.Contents.{UnitText}
use Rattle.lh_unit.specs.Typing.{value_type}
use Rattle.lh_unit.specs.Held.{Held, datum_held, cell_held, part_held, Env, as_delay, bits_in}
use Rattle.lh_term.specs.Tree.{Tree}
use Rattle.lh_term.specs.Mean.{Valuation, mean}
pub use Rattle.lh_term.specs.Mean.{is_one}
use Rattle.lh_term.specs.declared.part.Part.{Part}
use Rattle.lh_region_def.specs.Known.{Known, known_value, known_cell, known_part, Knowledge}
use Rattle.lh_region_def.specs.Rows.{Drive}

-- the lowest bit of argument i
abbrev pub lowest_bit : List Range → ℕ → ℕ
lowest_bit args i = option_map_or (λ (r : Range). r.lo) (slice_get args i) 0

-- the bits of the signals that a part has, where the arguments have these
abbrev pub range_in : List Range → Part → Range
range_in args p = record { lo = lowest_bit args p.arg + p.lo; len = bit_count p.ty }

-- the value of each part, where the signals have these bits
abbrev pub reads : (args : List Range) → (now : List Bool) → Valuation
reads args now p = value_from_bits p.ty (bits_in now (range_in args p))

-- what is held where this is known, by what terms mean
abbrev pub held_as : (Tree → Datum) → (Part → Range) → Known → Held
held_as value range (known_value t) = datum_held (value t)
held_as value range (known_cell t) = cell_held (value t)
held_as value range (known_part p) = part_held (range p)

-- what is known under a name that has a type is held
abbrev pub KnownIsHeld : UnitText → (Tree → Datum) → (Part → Range) → Knowledge → Env → Type 0
KnownIsHeld u value range k e = (n : List ℕ) (x : Known) (t : TypeTree) → k n ≡ Some x → value_type u n ≡ Some t → e n ≡ Some (held_as value range x)

-- the same, where parts had and have these values
abbrev pub KnowledgeAgrees : UnitText → (past now : Valuation) → (args : List Range) → Knowledge → Env → Type 0
KnowledgeAgrees u past now args k e = KnownIsHeld u (mean past now) (range_in args) k e

-- a condition holds
abbrev pub is_true : (past now : Valuation) → Tree → Bool
is_true past now t = is_one (mean past now t)

-- when a drive made at an instant is due, by the value of its delay
abbrev pub due_by : Instant → Datum → Option Instant
due_by at d = option_and_then (due_of at) (as_delay d)

-- the wish with one more drive, where its condition holds
abbrev pub with_row : (past now : Valuation) → (args : List Range) → Instant → Wish → Drive → Wish
with_row past now args at w d =
    if is_true past now d.cond
    then with_drive w (due_by at (mean past now d.delay)) (range_in args d.part).lo (value_bits (mean past now d.value))
    else w

-- The wish with drives, one after the other.
abbrev pub with_rows : (past now : Valuation) → (args : List Range) → Instant → Wish → List Drive → Wish
with_rows past now args at w [] = w
with_rows past now args at w (d ∷ more) = with_rows past now args at (with_row past now args at w d) more
