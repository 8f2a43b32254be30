use Rattle.std.proofs.Common.{drop}
use Rattle.lh_kernel_wakes.proofs.GatheredNumbers.{AreTogether}
use Rattle.lh_kernel_wakes.proofs.gathered.Gathered.into_rising.Given as goal

abbrev pub invariant-loop-n : goal.invariant-loop-n
invariant-loop-n l = AreTogether l.late.keys (drop l.n-index l.n-items) l.fn.self
