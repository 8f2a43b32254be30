-- How contracts see the fields of a unit.
use Rattle.lh_unit.specs.Table.{Table, IsTable, Definitions}
use Rattle.lh_unit.specs.declared.table.UnitTable.TheInside.{Inside}

abbrev pub table_of : Inside → Table
table_of t = record { kind = t.kind; values = t.values; labels = t.labels; args = t.args.items; result = t.result; blocks = t.blocks.items; bodies = t.bodies.items; lines = t.lines.items }

abbrev pub InOrder : Inside → Type 0
InOrder t = IsTable (table_of t) × Definitions (table_of t) t.defs.items
