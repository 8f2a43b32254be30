-- Rows of types.
use Rattle.std.specs.Prelude.{List, [], ◌∷◌, Option, Some}
use Rattle.lh_types.specs.Types.{TypeTree, TypeRow}
use Rattle.lh_unit.specs.Typing.{with_type}

-- types in front of a row, where it is there
abbrev pub rows_joined : List TypeTree → Option TypeRow → Option TypeRow
rows_joined [] r = r
rows_joined (t ∷ more) r = with_type (Some t) (rows_joined more r)
