use Rattle.std.proofs.Common.{ℕ, ◌≢◌, ◌⊎◌, ◌<◌, get_or}
use Rattle.lh_library_trials.specs.declared.tests.queue_buckets.Row.{Row}
use Rattle.lh_library_trials.proofs.tests.queue_buckets.is_new.Given as goal

abbrev pub invariant-loop-j : goal.invariant-loop-j
invariant-loop-j l = (j : ℕ) (r s : Row) → j < l.j → ((get_or l.rows l.k s).due ≢ (get_or l.rows j r).due) ⊎ ((get_or l.rows l.k s).instance ≢ (get_or l.rows j r).instance)
