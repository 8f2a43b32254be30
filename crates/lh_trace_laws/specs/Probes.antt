-- What a probe reads.
use Rattle.std.specs.Prelude.{List, Bool}
use Rattle.lh_types.specs.Types.{TypeTree, IsData}
use Rattle.lh_types.specs.Fits.{FitsType}
use Rattle.lh_types.specs.Bits.{value_from_bits}

-- A value of a data type that is read from bits is of this type, whatever the bits are and however many there are.
abbrev pub ReadValuesFit : Type 0
ReadValuesFit = (t : TypeTree) (bits : List Bool) → IsData t → FitsType (value_from_bits t bits) t
