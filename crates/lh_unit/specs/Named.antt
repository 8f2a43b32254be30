-- Units, blocks and labels by their names.
use Rattle.std.specs.Prelude.{ℕ, List, [], ◌∷◌, Bool, true, false, if◌then◌else◌, Option, Some, None}
use Rattle.lh_unit_names.specs.declared.name.UnitName.{UnitName}
use Rattle.lh_unit.specs.declared.inst.UnitKind.{UnitKind}
use Rattle.lh_unit.specs.declared.inst.UnitKind.TheVariants as kind
use Rattle.lh_unit_names.specs.UnitNames.{same_unit_name}
use Rattle.lh_unit.specs.Contents.{BlockText, UnitText, ItemText, unit_text, declare_text, is_result_name}

-- the unit of this name
abbrev pub unit_named : UnitName → List ItemText → Option UnitText
unit_named n [] = None
unit_named n (declare_text d ∷ more) = unit_named n more
unit_named n (unit_text u ∷ more) = if same_unit_name u.name n then Some u else unit_named n more

-- the block of this label
abbrev pub block_of : List ℕ → List BlockText → Option BlockText
block_of n [] = None
block_of n (b ∷ more) = if is_result_name n b.label then Some b else block_of n more

-- the function of this name
abbrev pub function_named : UnitName → List UnitText → Option UnitText
function_named n [] = None
function_named n (u ∷ more) = if same_unit_name u.name n then Some u else function_named n more

-- a function, and neither a process nor an entity
abbrev pub is_function : UnitKind → Bool
is_function kind.Func = true
is_function _ = false

-- a label; an entity's one block has none
abbrev pub label_or : Option (List ℕ) → List ℕ
label_or None = []
label_or (Some n) = n
