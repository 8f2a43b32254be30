use Rattle.std.proofs.Common.{◌≡◌, false, drop}
use Rattle.std.specs.Prelude.{slice_index_or}
use Rattle.std.specs.List.{list_any}
use Rattle.lh_verify_operands.specs.declared.uses.Use.{Use}
use Rattle.lh_verify_labels.proofs.probes.any_is_marked.Given as goal

abbrev pub invariant-loop-operand : goal.invariant-loop-operand
invariant-loop-operand l = list_any (λ (x : Use). slice_index_or l.marks x.value.0 false) (drop l.operand-index l.operands) ≡ list_any (λ (x : Use). slice_index_or l.marks x.value.0 false) l.operands
