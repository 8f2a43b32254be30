use Rattle.std.proofs.Common.{◌≡◌, take, sum_by}
use Rattle.lh_types.specs.Raised.{raised}
use Rattle.lh_watch.proofs.builtin.TogglesWatcher.frame.Given as goal

abbrev pub invariant-loop-c : goal.invariant-loop-c
invariant-loop-c l = l.self.bits ≡ raised l.fn.self.bits (sum_by (λ c. c.toggled) (take l.c-index l.changes))
