-- What the code holds under a value, as the definitions hold it.
use Rattle.std.specs.Prelude.{Option, Some, None}
use Rattle.lh_types.specs.ValueOf.{datum_of}
use Rattle.lh_unit.specs.Held as text
use Rattle.lh_eval.specs.declared.held.Held.{Held}
use Rattle.lh_eval.specs.declared.held.Held.TheVariants.{Datum, Cell, Part}

-- a value, a variable with what is stored in it, or a part of the signals
abbrev pub held_of : Held → text.Held
held_of (Datum v) = text.datum_held (datum_of v)
held_of (Cell v) = text.cell_held (datum_of v)
held_of (Part r) = text.part_held r

-- the same, if anything is held
abbrev pub maybe_held : Option Held → Option text.Held
maybe_held None = None
maybe_held (Some h) = Some (held_of h)
