use Rattle.std.proofs.Common.{◌≡◌, ◌+◌, length, drop}
use Rattle.lh_time.specs.declared.Instant.{Instant}
use Rattle.lh_kernel.specs.Puts.{wishes_ran}
use Rattle.lh_kernel.proofs.plan.wish_count.Given as goal

abbrev pub invariant-loop-done : goal.invariant-loop-done
invariant-loop-done l = (t : Instant) → l.count + length (wishes_ran t (drop l.done-index l.acts)) ≡ length (wishes_ran t l.acts)
