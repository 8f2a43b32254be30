use Rattle.std.proofs.Common.{◌≡◌, map, drop}
use Rattle.lh_unit.specs.Naming.{operand_text}
use Rattle.lh_unit.specs.TypingRows.{all_have}
use Rattle.lh_verify_values.specs.Facts.{text_in, naming_in}
use Rattle.lh_verify_types.proofs.operands.all_have_number.Given as goal

abbrev pub invariant-loop-operand : goal.invariant-loop-operand
invariant-loop-operand l = all_have (text_in l.scope) l.of.ty.now (map (operand_text (naming_in l.scope)) (drop l.operand-index l.operands))
    ≡ all_have (text_in l.scope) l.of.ty.now (map (operand_text (naming_in l.scope)) l.operands)
