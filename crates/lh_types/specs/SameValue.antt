-- Whether two values are equal.
use Rattle.std.specs.Prelude.{Bool, true, false, ◌&&◌, nat_eq}
use Rattle.lh_types.specs.Values.{Datum, DatumRow, int_value, time_value, array_value, tuple_value, no_values, more_values}
use Rattle.lh_types.specs.ValueOf.{datum_of}
use Rattle.lh_types.specs.declared.val.Val.{Val}

abbrev mutual
  -- integers by width and bits, times by their fields, arrays and structs part by part
  pub same_datum : Datum → Datum → Bool
  same_datum (int_value n a) (int_value m b) = nat_eq n m && nat_eq a b
  same_datum (time_value d) (time_value e) = nat_eq d.fs e.fs && (nat_eq d.delta e.delta && nat_eq d.eps e.eps)
  same_datum (array_value vs) (array_value ws) = same_parts vs ws
  same_datum (tuple_value vs) (tuple_value ws) = same_parts vs ws
  same_datum _ _ = false

  -- each the same as its partner
  pub same_parts : DatumRow → DatumRow → Bool
  same_parts no_values no_values = true
  same_parts (more_values v vs) (more_values w ws) = same_datum v w && same_parts vs ws
  same_parts _ _ = false

-- whether two values of the program are one
abbrev pub same_val : Val → Val → Bool
same_val v w = same_datum (datum_of v) (datum_of w)
