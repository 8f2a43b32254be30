use Rattle.std.proofs.Common.{◌≡◌, drop}
use Rattle.std.specs.List.{list_any}
use Rattle.lh_verify_operands.specs.declared.uses.Use.{Use}
use Rattle.lh_verify_labels.specs.Turns.{is_before}
use Rattle.lh_verify_labels.proofs.probes.any_is_before.Given as goal

abbrev pub invariant-loop-operand : goal.invariant-loop-operand
invariant-loop-operand l = list_any (λ (x : Use). is_before l.turns l.turn x.value) (drop l.operand-index l.operands) ≡ list_any (λ (x : Use). is_before l.turns l.turn x.value) l.operands
