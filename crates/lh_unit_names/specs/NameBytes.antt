-- How contracts see the bytes of a name.
use Rattle.std.specs.Prelude.{ℕ, ◌≤◌, List, take}
use Rattle.lh_unit_names.specs.declared.name.NameBytes.{NameBytes}
use Rattle.lh_unit_names.specs.declared.name.NameBytes.TheVariants.{Short, Long}

-- the bytes in order
abbrev pub bytes_of : NameBytes → List ℕ
bytes_of (Short len bytes) = take len bytes
bytes_of (Long bytes) = bytes.value.items

-- bytes that lie in place are as many as fit there
abbrev pub IsInPlace : NameBytes → Type 0
IsInPlace (Short len bytes) = len ≤ 22
IsInPlace (Long bytes) = Unit {0}
