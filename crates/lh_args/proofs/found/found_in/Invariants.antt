use Rattle.std.proofs.Common.{length}
use Rattle.lh_args.proofs.OptionsFound.{Progress}
use Rattle.lh_args.proofs.found.found_in.Given as goal

abbrev pub invariant-loop-rest : goal.invariant-loop-rest
invariant-loop-rest l = Progress l.options l.rest l.found

abbrev pub decreases-loop-rest : goal.decreases-loop-rest
decreases-loop-rest l = length l.rest
