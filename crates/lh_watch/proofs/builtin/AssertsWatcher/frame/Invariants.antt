use Rattle.std.proofs.Common.{◌≡◌, take, count_by, not}
use Rattle.lh_types.specs.Raised.{raised}
use Rattle.lh_watch.proofs.builtin.AssertsWatcher.frame.Given as goal

abbrev pub invariant-loop-o : goal.invariant-loop-o
invariant-loop-o l =
    record {
      passed : l.self.passed ≡ raised l.fn.self.passed (count_by (λ o. o.passed) (take l.o-index l.outcomes));
      failed : l.self.failed ≡ raised l.fn.self.failed (count_by (λ o. not o.passed) (take l.o-index l.outcomes));
    }
