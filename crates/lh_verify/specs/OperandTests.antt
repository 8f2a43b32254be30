-- What is asked of one operand.
use Rattle.std.specs.Prelude.{ℕ, List, Option, Some, None, Bool, true, false, not, ◌&&◌, ◌||◌, if◌then◌else◌}
use Rattle.std.specs.List.{list_any}
use Rattle.lh_unit.specs.Contents.{EdgeText, InstText, ArgText, UnitText, ItemText, defines_value, defines_label, defines_unit}
use Rattle.lh_unit.specs.Named.{is_function}
use Rattle.lh_unit_names.specs.UnitNames.{is_assert}
use Rattle.lh_unit.specs.Kinds.{Use}
use Rattle.lh_unit.specs.declared.inst.UnitKind.{UnitKind}
use Rattle.lh_unit.specs.Places.{is_terminator}
use Rattle.lh_unit.specs.WellFormed.{in_entity, labels_named, units_named}
use Rattle.lh_verify.specs.declared.arguments.Side.{Side}
use Rattle.lh_verify.specs.declared.arguments.Side.TheVariants.{Inputs, Outputs, All}

-- the value of an operand is defined nowhere in the unit
abbrev pub names_nothing : UnitText → Use → Bool
names_nothing t x = not (defines_value x.value t)

-- in a function or process, the last of its block and no terminator, or a terminator and not the last
abbrev pub ends_wrong : UnitKind → (last : Bool) → InstText → Bool
ends_wrong k last i = not (in_entity k) && not (if last then is_terminator i else not (is_terminator i))

-- no block of the unit has this label
abbrev pub label_is_missing : UnitText → List ℕ → Bool
label_is_missing t n = not (defines_label n t)

abbrev pub edge_is_missing : UnitText → EdgeText → Bool
edge_is_missing t e = label_is_missing t e.block

-- an instruction names a label that no block has
abbrev pub label_is_missing_in : UnitText → InstText → Bool
label_is_missing_in t i = list_any (λ n. not (defines_label n t)) (labels_named i)

-- an instruction names a unit that is defined nowhere
abbrev pub unit_is_missing_in : List ItemText → InstText → Bool
unit_is_missing_in items i = list_any (λ n. not (defines_unit n items || is_assert n)) (units_named i)

-- a parameter is among those of one side
abbrev pub on_side : Side → ArgText → Bool
on_side Inputs a = not a.output
on_side Outputs a = a.output
on_side All a = true

-- a function, and neither another unit nor none
abbrev pub is_function_kind : Option UnitKind → Bool
is_function_kind None = false
is_function_kind (Some k) = is_function k
