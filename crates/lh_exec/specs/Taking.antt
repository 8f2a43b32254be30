-- The values that the `phi` instructions of a block take, and those that a function is called with, by ids.
use Rattle.std.specs.Prelude.{◌≡◌, List, [], ◌∷◌, map, Bool, true, false, nat_eq, if◌then◌else◌, Option, Some, None, slice_set, ◌++◌}
use Rattle.std.specs.Option.{option_and_then, option_map}
use Rattle.lh_types.specs.Values.{Datum}
use Rattle.lh_types.specs.ValueOf.{datum_of}
use Rattle.lh_unit.specs.Held.{Held, datum_held}
use Rattle.lh_unit.specs.Table.{Table, line_at}
use Rattle.lh_unit.specs.declared.inst.InstId.{InstId}
use Rattle.lh_unit.specs.declared.inst.ValueId.{ValueId}
use Rattle.lh_unit.specs.declared.inst.BlockId.{BlockId}
use Rattle.lh_unit.specs.declared.inst.PhiEdge.{PhiEdge}
use Rattle.lh_unit.specs.declared.inst.Arg.{Arg}
use Rattle.lh_unit.specs.declared.inst.Typed.{Typed}
use Rattle.lh_unit.specs.declared.inst.Inst.{Inst}
use Rattle.lh_unit.specs.declared.inst.Inst.TheVariants as inst
use Rattle.lh_eval.specs.Holding.{datum_in, data_in}
use Rattle.lh_eval.specs.Beginning.{Slots}
use Rattle.lh_exec.specs.declared.machine.Taken.{Taken}

-- the operand that a `phi` names for an edge from this block
abbrev pub edge_in : BlockId → List PhiEdge → Option ValueId
edge_in from [] = None
edge_in from (e ∷ more) = if nat_eq e.block.0 from.0 then Some e.value else edge_in from more

-- what is taken: a value and its name
abbrev pub taken_of : Taken → ValueId × Datum
taken_of t = (t.name, datum_of t.value)

-- one value more in front, under its name if it has one, where each is there
abbrev pub in_front : Option ValueId → Option Datum → Option (List (ValueId × Datum)) → Option (List (ValueId × Datum))
in_front (Some n) (Some d) (Some more) = Some ((n, d) ∷ more)
in_front None (Some d) more = more
in_front n _ _ = None

-- the value of one `phi` for the edge from a block; other instructions take none
abbrev pub one_taken : BlockId → Slots → Inst → Option ValueId → Option (List (ValueId × Datum)) → Option (List (ValueId × Datum))
one_taken from slots (inst.Phi ty edges) result more = in_front result (option_and_then (datum_in slots) (edge_in from edges)) more
one_taken from slots _ result more = more

-- the values of the `phi` among these instructions
abbrev pub all_taken : BlockId → Slots → Table → List InstId → Option (List (ValueId × Datum))
all_taken from slots t [] = Some []
all_taken from slots t (i ∷ more) = one_taken from slots (line_at t i.0).inst (line_at t i.0).result (all_taken from slots t more)

-- with what is taken held under its names, the first one last
abbrev pub put_all : List (ValueId × Datum) → Slots → Slots
put_all [] slots = slots
put_all (x ∷ more) slots = slice_set (put_all more slots) x.0.0 (Some (datum_held x.1))

-- with the arguments of a unit held
abbrev pub data_given : List Arg → List Held → Slots → Slots
data_given [] hs slots = slots
data_given (a ∷ more) [] slots = slots
data_given (a ∷ more) (h ∷ hs) slots = data_given more hs (slice_set slots a.value.0 (Some h))

-- with the values of operands held by the arguments of a unit, where each operand holds one
abbrev pub operands_given : List Arg → List Typed → (from to : Slots) → Option Slots
operands_given args os from to = option_map (λ ds. data_given args (map datum_held ds) to) (data_in from os)

-- all were there and these slots hold them, or one was not there
abbrev pub GivesValues : Bool → Slots → Option Slots → Type 0
GivesValues true slots all = all ≡ Some slots
GivesValues false slots all = all ≡ None

-- all were there and these are taken, or one was not there
abbrev pub TakesValues : Bool → List (ValueId × Datum) → Option (List (ValueId × Datum)) → Type 0
TakesValues true xs all = all ≡ Some xs
TakesValues false xs all = all ≡ None

-- behind what was taken so far, one instruction and then more
abbrev pub TakesMore : Bool → (old new : List (ValueId × Datum)) → (more all : Option (List (ValueId × Datum))) → Type 0
TakesMore true old new more all = option_map (λ ys. new ++ ys) more ≡ option_map (λ ys. old ++ ys) all
TakesMore false old new more all = all ≡ None
