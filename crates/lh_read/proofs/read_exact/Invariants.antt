use Rattle.std.proofs.Common.{length}
use Rattle.lh_read.proofs.Progress.{At}
use Rattle.lh_read.proofs.read_exact.Given as goal

abbrev pub invariant-loop-rest : goal.invariant-loop-rest
invariant-loop-rest l = At l.text l.rest l.number l.reader

abbrev pub decreases-loop-rest : goal.decreases-loop-rest
decreases-loop-rest l = length l.rest
