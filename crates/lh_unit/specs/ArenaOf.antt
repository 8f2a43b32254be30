-- How contracts see the fields of a module.
use Rattle.lh_unit.specs.Arena.{Arena}
use Rattle.lh_unit.specs.declared.module.Module.TheInside.{Inside}

abbrev pub arena_of : Inside → Arena
arena_of m = record { names = m.names.keys; units = m.units.items; items = m.items.items }
