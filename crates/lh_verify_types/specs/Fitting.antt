-- What a row asks of the type of one operand.
use Rattle.std.specs.Prelude.{Bool, false, ◌&&◌}
use Rattle.std.specs.Option.{option_map_or}
use Rattle.lh_types.specs.Types.{TypeTree, time_type}
use Rattle.lh_types.specs.Faults.{is_data}
use Rattle.lh_unit.specs.Contents.{OperandText, EdgeText, TriggerText, UnitText}
use Rattle.lh_unit.specs.TypingRows.{has_type, may_have_type, bit, agrees}

-- a data type is written before a field of a struct, and it is the field's
abbrev pub field_fits : UnitText → OperandText → Bool
field_fits t o = option_map_or is_data o.ty false && agrees t o

-- the operand of a `phi` has its type
abbrev pub edge_fits : UnitText → TypeTree → EdgeText → Bool
edge_fits t ty e = has_type t ty e.value

-- a trigger fits a register that carries this type
abbrev pub carried_fits : UnitText → TypeTree → TriggerText → Bool
carried_fits t ty g = has_type t ty g.value && has_type t bit g.trigger && may_have_type t bit g.gate && may_have_type t time_type g.after
