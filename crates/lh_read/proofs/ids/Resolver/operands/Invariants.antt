use Rattle.std.proofs.Common.{◌≡◌, List, ◌++◌, map}
use Rattle.lh_unit.specs.Contents.{OperandText}
use Rattle.lh_read_phrases.specs.SyntaxOf.{operand_of}
use Rattle.lh_read.specs.Placing.{OperandsPlaced}
use Rattle.lh_read.proofs.ids.Resolver.operands.Given as goal

-- those that were taken are placed, and the others are left
abbrev pub invariant-loop-one : goal.invariant-loop-one
invariant-loop-one l =
    (goal.iterator-loop-one).can_next l.one-iterator ×
    (goal.iterator-loop-one).is_finite l.one-iterator ×
    ((said : List OperandText) × OperandsPlaced l.fn.self.module l.self.module l.unit l.to said × (said ++ map operand_of l.one-iterator ≡ map operand_of l.fn.from))
