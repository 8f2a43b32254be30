-- When a value is of a type.
use Rattle.std.specs.Prelude.{◌≡◌, ℕ, ◌^◌, ◌<◌, ◌+◌}
use Rattle.lh_types.specs.Types.{TypeTree, TypeRow, int_type, time_type, array_type, tuple_type, no_types, more_types, IsData}
use Rattle.lh_types.specs.Values.{Datum, DatumRow, int_value, time_value, array_value, tuple_value, no_values, more_values}

-- how many parts a row has
abbrev pub part_count : DatumRow → ℕ
part_count no_values = 0
part_count (more_values v vs) = part_count vs + 1

abbrev mutual
  -- an integer of the same width, below 2 ^ width; a time; arrays and structs part by part
  pub FitsType : Datum → TypeTree → Type 0
  FitsType (int_value w b) (int_type n) = (w ≡ n) × (b < 2 ^ n)
  FitsType (time_value d) time_type = Unit {0}
  FitsType (array_value vs) (array_type n t) = (part_count vs ≡ n) × PartsFit vs t
  FitsType (tuple_value vs) (tuple_type ts) = FitsRow vs ts
  FitsType _ _ = ⊥

  -- each part is of the type
  pub PartsFit : DatumRow → TypeTree → Type 0
  PartsFit no_values t = Unit {0}
  PartsFit (more_values v vs) t = FitsType v t × PartsFit vs t

  -- as many values as types, each of its type
  pub FitsRow : DatumRow → TypeRow → Type 0
  FitsRow no_values no_types = Unit {0}
  FitsRow (more_values v vs) (more_types t ts) = FitsType v t × FitsRow vs ts
  FitsRow _ _ = ⊥

-- it is a value of some data type
pub record FitsData (v : Datum) : Type 0 where
  pub of : TypeTree
  pub is_data : IsData of
  pub fits : FitsType v of
