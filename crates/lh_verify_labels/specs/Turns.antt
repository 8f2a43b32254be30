-- Turns of the values of a unit: when a search that begins at the `prb` instructions comes to each.
use Rattle.std.specs.Prelude.{ℕ, List, map, Bool, true, not, ◌&&◌, ◌||◌, nat_eq, nat_lt, nat_le, Option, Some, None, slice_index_or}
use Rattle.std.specs.List.{list_any, list_all}
use Rattle.lh_unit.specs.declared.inst.ValueId.{ValueId}
use Rattle.lh_unit.specs.declared.inst.Inst.{Inst}
use Rattle.lh_unit.specs.declared.inst.Inst.TheVariants as inst
use Rattle.lh_unit.specs.declared.table.TableLine.{TableLine}
use Rattle.lh_verify_operands.specs.declared.uses.Use.{Use}
use Rattle.lh_verify_operands.specs.Uses.{uses_of}

-- the turn of a value, from 1; 0 where the search does not come to it
abbrev pub turn_of : List ℕ → ValueId → ℕ
turn_of turns v = slice_index_or turns v.0 0

-- the turn is before this one
abbrev pub is_before : List ℕ → (turn : ℕ) → ValueId → Bool
is_before turns t v = not (nat_eq (turn_of turns v) 0) && nat_lt (turn_of turns v) t

-- an instruction is a `prb`, or one of its operands passes the test
abbrev pub comes_by : (ValueId → Bool) → Inst → Bool
comes_by test (inst.Prb s) = true
comes_by test i = list_any (λ (x : Use). test x.value) (uses_of i)

-- a result to which the search comes has a turn up to n, and comes from a `prb` or from an operand of an earlier turn
abbrev pub result_led : (n : ℕ) → List ℕ → Option ValueId → Inst → Bool
result_led n turns None i = true
result_led n turns (Some v) i = nat_eq (turn_of turns v) 0 || (nat_le (turn_of turns v) n && comes_by (is_before turns (turn_of turns v)) i)

abbrev pub line_led : (n : ℕ) → List ℕ → TableLine → Bool
line_led n turns l = result_led n turns l.result l.inst

-- so has each result of these lines
abbrev pub all_led : (n : ℕ) → List ℕ → List TableLine → Bool
all_led n turns ls = list_all (line_led n turns) ls

-- which values have a turn
abbrev pub with_turns : List ℕ → List Bool
with_turns turns = map (λ t. not (nat_eq t 0)) turns
