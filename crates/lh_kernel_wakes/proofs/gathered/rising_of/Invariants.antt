use Rattle.lh_kernel_wakes.proofs.GatheredNumbers.{AreTogether}
use Rattle.lh_kernel_wakes.proofs.gathered.rising_of.Given as goal

abbrev pub invariant-loop-n : goal.invariant-loop-n
invariant-loop-n l = AreTogether l.rising l.n-iterator l.numbers.keys
