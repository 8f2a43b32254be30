use Rattle.std.proofs.Common.{◌≡◌, ◌≤◌, length}
use Rattle.lh_types.specs.History.{values_by}
use Rattle.lh_queue.specs.Queued.{AreInOrder, NoneDueBefore, EachWithin, due_later}
use Rattle.lh_queue.specs.Holds.{entries}
use Rattle.lh_queue.proofs.queue.Queue.take_due.Given as goal

abbrev pub invariant-loop-self : goal.invariant-loop-self
invariant-loop-self l = record {
  order : AreInOrder l.self.held;
  due : NoneDueBefore l.at l.self.held;
  within : EachWithin (length l.now) l.self.held;
  left : due_later l.at l.self.held ≡ due_later l.at l.fn.self.held;
  spare : l.fn.self.spare ≤ l.self.spare;
  bits : values_by (entries l.self.held) l.at 0 l.now ≡ values_by (entries l.fn.self.held) l.at 0 l.fn.now;
}

abbrev pub decreases-loop-self : goal.decreases-loop-self
decreases-loop-self l = length l.self.held
