use Rattle.std.proofs.Common.{◌≡◌, ◌++◌, drop}
use Rattle.lh_shape.specs.ByIds.{parts_on}
use Rattle.lh_shape.proofs.ends.waited_parts.Given as goal

abbrev pub invariant-loop-end : goal.invariant-loop-end
invariant-loop-end l = l.waited ++ parts_on (drop l.end-index l.ends) ≡ parts_on l.ends
