use Rattle.std.proofs.Common.{◌≡◌, ◌++◌, map, take}
use Rattle.lh_kernel.proofs.run.add_outcomes.Given as goal

abbrev pub invariant-loop-passed : goal.invariant-loop-passed
invariant-loop-passed l = l.outcomes ≡ l.fn.outcomes ++ map (λ passed. record { instance = l.done.instance; passed = passed }) (take l.passed-index l.passed-items)
