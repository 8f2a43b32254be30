use Rattle.std.proofs.Common.{drop, map}
use Rattle.lh_text_buffer.specs.Writing.{Leaves}
use Rattle.lh_unit.specs.Arena.{naming}
use Rattle.lh_unit.specs.Naming.{trigger_text}
use Rattle.lh_unit.specs.Pieces.{render, behind_commas}
use Rattle.lh_unit.specs.Canon.{trigger}
use Rattle.lh_print.proofs.operands.put_triggers_behind.Given as goal

abbrev pub invariant-loop-t : goal.invariant-loop-t
invariant-loop-t l = Leaves l.initial.out l.out (render (behind_commas (map trigger (map (trigger_text (naming l.view.module.now l.view.unit.0)) (drop l.t-index l.triggers))))) (render (behind_commas (map trigger (map (trigger_text (naming l.view.module.now l.view.unit.0)) l.triggers))))
