use Rattle.lh_lower_copy.proofs.Bodies.{BodyLeft}
use Rattle.lh_lower_copy.proofs.entities.put_lines.Given as goal

-- the lines that are left are still to be added
abbrev pub invariant-loop-line : goal.invariant-loop-line
invariant-loop-line l =
    (goal.iterator-loop-line).can_next l.line-iterator
    × (goal.iterator-loop-line).is_finite l.line-iterator
    × BodyLeft l.fn.m l.m l.unit l.line-iterator.rest.items l.fn.lines
