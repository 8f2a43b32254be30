use Rattle.std.proofs.Common.{◌≡◌, length}
use Rattle.lh_types.specs.History.{values_by}
use Rattle.lh_queue.specs.Holds.{entries}
use Rattle.lh_queue.specs.Places.{rest_from}
use Rattle.lh_queue.proofs.queue.Queue.look_due.Given as goal

abbrev pub invariant-loop-key : goal.invariant-loop-key
invariant-loop-key l = record {
  counted : length l.now ≡ length l.fn.now;
  bits : values_by (entries (rest_from l.self.held l.key)) l.at 0 l.now ≡ values_by (entries l.self.held) l.at 0 l.fn.now;
}

abbrev pub decreases-loop-key : goal.decreases-loop-key
decreases-loop-key l = length (rest_from l.self.held l.key)
