use Rattle.std.proofs.Common.{ℕ, ◌≢◌, ◌⊎◌, ◌<◌, get_or}
use Rattle.lh_queue.specs.declared.wish.Wish.{Wish}
use Rattle.lh_queue.specs.Queued.{EachWithin, NoneCompetes}
use Rattle.lh_library_trials.specs.declared.tests.queue_buckets.Row.{Row}
use Rattle.lh_library_trials.proofs.tests.queue_buckets.filled.Given as goal

-- a wish that differs from each row so far competes with none that is held
abbrev pub invariant-loop-k : goal.invariant-loop-k
invariant-loop-k l = record {
  within : EachWithin 8 l.queue.held;
  apart : (w : Wish) → ((j : ℕ) (r : Row) → j < l.k → (w.due ≢ (get_or l.rows j r).due) ⊎ (w.instance ≢ (get_or l.rows j r).instance)) → NoneCompetes w l.queue.held;
}
