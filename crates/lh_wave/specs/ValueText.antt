-- Values and instants as a trace shows them.
use Rattle.std.specs.Prelude.{ℕ, List, [], ◌++◌, codes, decimal}
use Rattle.lh_types.specs.Values.{Datum, DatumRow, int_value, time_value, array_value, tuple_value, no_values, more_values}

-- femtoseconds, deltas and epsilons
abbrev pub moment_text : (fs delta eps : ℕ) → List ℕ
moment_text fs delta eps = decimal fs ++ codes "fs " ++ decimal delta ++ codes "d " ++ decimal eps ++ codes "e"

abbrev mutual
  -- an integer in decimal, an array as `[1, 2]`, a struct as `{1, 2}`, and a time, which no signal carries, by its fields
  pub value_text : Datum → List ℕ
  value_text (int_value width bits) = decimal bits
  value_text (time_value d) = moment_text d.fs d.delta d.eps
  value_text (array_value vs) = codes "[" ++ values_text vs ++ codes "]"
  value_text (tuple_value vs) = codes "{" ++ values_text vs ++ codes "}"

  -- the values in order, between commas
  pub values_text : DatumRow → List ℕ
  values_text no_values = []
  values_text (more_values v vs) = value_text v ++ others_text vs

  -- the same behind a first one
  pub others_text : DatumRow → List ℕ
  others_text no_values = []
  others_text (more_values v vs) = codes ", " ++ value_text v ++ others_text vs
