use Rattle.std.proofs.Common.{drop, map}
use Rattle.lh_text_buffer.specs.Writing.{Leaves}
use Rattle.lh_unit.specs.Arena.{naming}
use Rattle.lh_unit.specs.Naming.{value_text}
use Rattle.lh_unit.specs.Pieces.{render, behind_commas, percent}
use Rattle.lh_print.proofs.operands.put_signals_behind.Given as goal

abbrev pub invariant-loop-signal : goal.invariant-loop-signal
invariant-loop-signal l = Leaves l.initial.out l.out (render (behind_commas (map percent (map (value_text (naming l.view.module.now l.view.unit.0)) (drop l.signal-index l.signals))))) (render (behind_commas (map percent (map (value_text (naming l.view.module.now l.view.unit.0)) l.signals))))
