use Rattle.std.proofs.Common.{length}
use Rattle.lh_queue.proofs.hints.Hints.forget.Given as goal

abbrev pub decreases-loop-stop : goal.decreases-loop-stop
decreases-loop-stop l = length l.self.stops.items
