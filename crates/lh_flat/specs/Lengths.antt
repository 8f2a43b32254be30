-- How long a flat text is, counted without making it.
use Rattle.std.specs.Prelude.{◌≡◌, ℕ, zero, suc, ◌+◌, List, length, sum_by}
use Rattle.std.specs.Option.{option_map_or}
use Rattle.lh_unit_names.specs.declared.name.UnitName.{UnitName}
use Rattle.lh_unit.specs.Contents.{BlockText, UnitText}
use Rattle.lh_unit.specs.Named.{function_named}
use Rattle.lh_flat.specs.Calls.{callees_in}
use Rattle.lh_flat.specs.Copies.{Copy}
use Rattle.lh_flat.specs.Flat.{flat_copy, inst_count}

-- the length of the function of this name, if there is one
abbrev pub called_length : (length_of : UnitText → ℕ) → List UnitText → UnitName → ℕ
called_length length_of functions f = option_map_or length_of (function_named f functions) 0

-- the instructions of a block, and those of the functions that it calls
abbrev pub block_length : (length_of : UnitText → ℕ) → List UnitText → BlockText → ℕ
block_length length_of functions b = length b.lines + sum_by (called_length length_of functions) (callees_in b.lines)

-- the instructions of a unit with all that is copied into it, where at most `depth` units nest
abbrev pub copy_length : (depth : ℕ) → List UnitText → UnitText → ℕ
copy_length zero functions u = 0
copy_length (suc k) functions u = sum_by (block_length (copy_length k functions) functions) u.blocks

-- A copy has as many instructions as its unit and the functions that it calls, each counted as often as it is copied: a call becomes a branch, and so does a `ret`.
abbrev pub LengthsAdd : Type 0
LengthsAdd = (depth : ℕ) (functions : List UnitText) (c : Copy) → inst_count (flat_copy depth functions c) ≡ copy_length depth functions c.unit
