use Rattle.std.proofs.Common.{◌≡◌, ◌-◌, ◌≤◌}
use Rattle.lh_bits.specs.Flags.{flags}
use Rattle.lh_bits.proofs.run.same_run.Given as goal

abbrev pub invariant-loop-done : goal.invariant-loop-done
invariant-loop-done l = record {
  inside : l.done ≤ l.len;
  same : flags l.done l.lo l.a ≡ flags l.done l.lo l.b;
}

abbrev pub decreases-loop-done : goal.decreases-loop-done
decreases-loop-done l = l.len - l.done
