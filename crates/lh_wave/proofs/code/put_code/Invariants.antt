use Rattle.lh_wave.proofs.CodeLemmas.{Coding}
use Rattle.lh_wave.proofs.code.put_code.Given as goal

abbrev pub invariant-loop-rest : goal.invariant-loop-rest
invariant-loop-rest l = Coding l.fn.to l.to l.fn.signal l.rest

abbrev pub decreases-loop-rest : goal.decreases-loop-rest
decreases-loop-rest l = l.rest
