-- What an entity holds where it begins, by ids.
use Rattle.std.specs.Prelude.{List, [], ◌∷◌, if◌then◌else◌, Option, Some, slice_set}
use Rattle.lh_types.specs.declared.part.Range.{Range}
use Rattle.lh_unit.specs.Held.{Held, part_held}
use Rattle.lh_unit.specs.Table.{Table, line_at}
use Rattle.lh_unit.specs.ById.{is_sig}
use Rattle.lh_unit.specs.declared.inst.InstId.{InstId}
use Rattle.lh_unit.specs.declared.inst.ValueId.{ValueId}
use Rattle.lh_unit.specs.declared.inst.Arg.{Arg}
use Rattle.lh_unit.specs.declared.table.TableLine.{TableLine}
use Rattle.lh_eval.specs.Holding.{given}

-- what is held by ids
abbrev pub Slots : Type 0
Slots = List (Option Held)

-- the parts of the arguments, as many as there are ranges
abbrev pub args_given : List Arg → List Range → Slots → Slots
args_given [] rs slots = slots
args_given (a ∷ more) [] slots = slots
args_given (a ∷ more) (r ∷ rs) slots = args_given more rs (slice_set slots a.value.0 (Some (part_held r)))

-- the next part, under this name, and then the others
abbrev pub next_given : Option ValueId → List Range → Slots → (List Range → Slots → Slots) → Slots
next_given n [] slots others = slots
next_given n (r ∷ rs) slots others = others rs (given slots n (Some (part_held r)))

-- the same where the instruction is a `sig`
abbrev pub given_if_sig : TableLine → List Range → Slots → (List Range → Slots → Slots) → Slots
given_if_sig l rs slots others = if is_sig l.inst then next_given l.result rs slots others else others rs slots

-- the parts of the signals of these instructions
abbrev pub signals_given : Table → List InstId → List Range → Slots → Slots
signals_given t [] rs slots = slots
signals_given t (i ∷ more) rs slots = given_if_sig (line_at t i.0) rs slots (signals_given t more)
