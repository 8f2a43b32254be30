-- What holds of bits, values and parts.
use Rattle.std.specs.Prelude.{◌≡◌, ◌+◌, ◌≤◌, Bool, List, ◌++◌, length, take, Some, option_map, option_and_then}
use Rattle.lh_types.specs.Types.{TypeTree, IsData, bit_count}
use Rattle.lh_types.specs.Values.{Datum}
use Rattle.lh_types.specs.Fits.{FitsType}
use Rattle.lh_types.specs.Bits.{value_bits, value_from_bits}
use Rattle.lh_types.specs.Parts.{Part, part_beyond, part_of, part_along, with_part_along, bits_within, bits_with}
use Rattle.lh_types.specs.declared.part.Step.{Step}

-- a value has as many bits as its type
abbrev pub BitsAreCounted : Type 0
BitsAreCounted = (v : Datum) (t : TypeTree) → FitsType v t → length (value_bits v) ≡ bit_count t

-- the value of the bits of a value is the value
abbrev pub BitsGiveValue : Type 0
BitsGiveValue = (v : Datum) (t : TypeTree) → IsData t → FitsType v t → value_from_bits t (value_bits v) ≡ v

-- the value that stands at the front of some bits is of the type, and its bits are these bits
abbrev pub ValueGivesBits : Type 0
ValueGivesBits = (t : TypeTree) (bs : List Bool) → IsData t → bit_count t ≤ length bs → FitsType (value_from_bits t bs) t × (value_bits (value_from_bits t bs) ≡ take (bit_count t) bs)

-- a part of a part is a part, which starts at the sum of their lowest bits
abbrev pub PartOfPart : Type 0
PartOfPart = (t : TypeTree) (ss rs : List Step) → part_of t (ss ++ rs) ≡ option_and_then (λ p. option_map (part_beyond p.lo) (part_of p.of rs)) (part_of t ss)

-- a part of a data type is of a data type, and lies within the whole
abbrev pub PartsAreWithin : Type 0
PartsAreWithin = (t : TypeTree) (ss : List Step) (p : Part) → IsData t → part_of t ss ≡ Some p → IsData p.of × (p.lo + bit_count p.of ≤ bit_count t)

-- the part of a value is of the part's type, and its bits are those of the value within the part
abbrev pub BitsOfPart : Type 0
BitsOfPart = (v : Datum) (t : TypeTree) (ss : List Step) (p : Part) → IsData t → FitsType v t → part_of t ss ≡ Some p → FitsType (part_along v ss) p.of
    × (value_bits (part_along v ss) ≡ bits_within p.lo (bit_count p.of) (value_bits v))

-- a value with a part replaced is of the type, and its bits are those of the value with those of the new part
abbrev pub BitsWithPart : Type 0
BitsWithPart = (v w : Datum) (t : TypeTree) (ss : List Step) (p : Part) → IsData t → FitsType v t → part_of t ss ≡ Some p → FitsType w p.of → FitsType (with_part_along v ss w) t
    × (value_bits (with_part_along v ss w) ≡ bits_with p.lo (value_bits w) (value_bits v))
