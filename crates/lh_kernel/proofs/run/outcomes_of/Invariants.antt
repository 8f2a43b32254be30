use Rattle.std.proofs.Common.{◌≡◌, take}
use Rattle.lh_kernel.specs.Ran.{outcomes_ran}
use Rattle.lh_kernel.proofs.run.outcomes_of.Given as goal

abbrev pub invariant-loop-done : goal.invariant-loop-done
invariant-loop-done l = l.outcomes ≡ outcomes_ran (take l.done-index l.acts)
