use Rattle.std.proofs.Common.{◌≡◌, map, drop}
use Rattle.std.specs.List.{list_any}
use Rattle.lh_verify.specs.OperandTests.{names_nothing}
use Rattle.lh_verify_values.specs.Facts.{text_in, naming_in}
use Rattle.lh_verify_operands.specs.Uses.{use_text}
use Rattle.lh_verify.proofs.kinds.any_names_nothing.Given as goal

abbrev pub invariant-loop-operand : goal.invariant-loop-operand
invariant-loop-operand l = list_any (names_nothing (text_in l.scope)) (map (use_text (naming_in l.scope)) (drop l.operand-index l.operands))
    ≡ list_any (names_nothing (text_in l.scope)) (map (use_text (naming_in l.scope)) l.operands)
