use Rattle.std.proofs.Common.{drop, IfSome}
use Rattle.lh_shape.specs.ByIds.{drives_at}
use Rattle.lh_shape.specs.Answers.{Finds}
use Rattle.lh_shape.specs.declared.shape.Found.{Found}
use Rattle.lh_shape.proofs.RegisterShapes.{RegistersSoFar}
use Rattle.lh_shape.proofs.shape.registers_of.Given as goal

abbrev pub invariant-loop-drive : goal.invariant-loop-drive
invariant-loop-drive l = RegistersSoFar l.fn.terms l.terms l.waited (drives_at l.fn.terms l.drives) l.is_hidden l.rows (drop l.drive-index l.drives)
    × IfSome l.last (λ (f : Found). Finds l.terms l.waited f)
