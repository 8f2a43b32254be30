use Rattle.std.proofs.Common.{◌≡◌, take, count_by, not}
use Rattle.lh_types.specs.Raised.{raised}
use Rattle.lh_selftest_design.proofs.summary.Counts.see_outcomes.Given as goal

abbrev pub invariant-loop-o : goal.invariant-loop-o
invariant-loop-o l =
    record {
      frames : l.self.frames ≡ l.fn.self.frames;
      changes : l.self.changes ≡ l.fn.self.changes;
      passed : l.self.passed ≡ raised l.fn.self.passed (count_by (λ o. o.passed) (take l.o-index l.outcomes));
      failed : l.self.failed ≡ raised l.fn.self.failed (count_by (λ o. not o.passed) (take l.o-index l.outcomes));
    }
