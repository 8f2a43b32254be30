use Rattle.std.proofs.Common.{drop, map}
use Rattle.lh_text_buffer.specs.Writing.{Leaves}
use Rattle.lh_unit.specs.Arena.{naming}
use Rattle.lh_unit.specs.Naming.{arg_text}
use Rattle.lh_unit.specs.Pieces.{render}
use Rattle.lh_unit.specs.Canon.{argument, arguments, side_of}
use Rattle.lh_print.proofs.Joined.{in_row}
use Rattle.lh_print.proofs.arguments.put_side.Given as goal

abbrev pub invariant-loop-arg : goal.invariant-loop-arg
invariant-loop-arg l = Leaves l.initial.out l.out (in_row l.before (map argument (side_of l.output (map (arg_text (naming l.view.module.now l.view.unit.0)) (drop l.arg-index l.args))))) (render (arguments (side_of l.output (map (arg_text (naming l.view.module.now l.view.unit.0)) l.args))))
