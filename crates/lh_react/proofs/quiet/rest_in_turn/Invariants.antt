use Rattle.std.proofs.Common.{take, Some}
use Rattle.lh_react.specs.Resting.{NoneFires}
use Rattle.lh_react.proofs.quiet.rest_in_turn.Given as goal

abbrev pub invariant-loop-number : goal.invariant-loop-number
invariant-loop-number l = NoneFires l.now (Some l.last) 0 (take l.number l.triggers) (take l.number l.values)
