use Rattle.std.proofs.Common.{drop, map}
use Rattle.lh_text_buffer.specs.Writing.{Leaves}
use Rattle.lh_unit.specs.Arena.{naming}
use Rattle.lh_unit.specs.Naming.{operand_text}
use Rattle.lh_unit.specs.Pieces.{render, behind_commas}
use Rattle.lh_unit.specs.Canon.{operand}
use Rattle.lh_print.proofs.operands.put_operands_behind.Given as goal

abbrev pub invariant-loop-typed : goal.invariant-loop-typed
invariant-loop-typed l = Leaves l.initial.out l.out (render (behind_commas (map operand (map (operand_text (naming l.view.module.now l.view.unit.0)) (drop l.typed-index l.args))))) (render (behind_commas (map operand (map (operand_text (naming l.view.module.now l.view.unit.0)) l.args))))
