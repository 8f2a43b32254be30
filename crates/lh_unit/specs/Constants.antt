-- How contracts see the constant of an instruction.
use Rattle.lh_types.specs.Values.{Datum, int_value}
use Rattle.lh_types.specs.ValueOf.{datum_of}
use Rattle.lh_unit.specs.declared.constant.KeptValue.{KeptValue}
use Rattle.lh_unit.specs.declared.constant.KeptValue.TheVariants.{Short, Other}

-- its value
abbrev pub value_of : KeptValue → Datum
value_of (Short width bits) = int_value width bits
value_of (Other value) = datum_of value.value
