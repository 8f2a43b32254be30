-- What a value of the program stands for.
use Rattle.lh_types.specs.Values.{Datum, int_value, time_value, array_value, tuple_value, data_row}
use Rattle.lh_types.specs.declared.val.Val.{Val}
use Rattle.lh_types.specs.declared.val.Val.TheVariants.{Int, Time, Array, Tuple}

-- the value, by its variant
abbrev pub datum_of : Val → Datum
datum_of (Int w b) = int_value w b
datum_of (Time d) = time_value d
datum_of (Array vs) = array_value (data_row vs)
datum_of (Tuple vs) = tuple_value (data_row vs)
