use Rattle.std.proofs.Common.{◌≡◌, map, drop}
use Rattle.lh_unit.specs.Naming.{Naming, operand_text}
use Rattle.lh_unit.specs.Typing.{operand_types}
use Rattle.lh_verify_values.specs.Rows.{rows_joined}
use Rattle.lh_verify_values.proofs.results.put_written.Given as goal

abbrev pub invariant-loop-operand : goal.invariant-loop-operand
invariant-loop-operand l = (f : Naming) → rows_joined l.list (operand_types (map (operand_text f) (drop l.operand-index l.args))) ≡ rows_joined l.initial.list (operand_types (map (operand_text f) l.args))
