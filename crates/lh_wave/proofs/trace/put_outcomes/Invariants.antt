use Rattle.lh_wave.specs.TraceText.{outcome_line}
use Rattle.lh_wave.proofs.FrameLemmas.{Writing}
use Rattle.lh_wave.proofs.trace.put_outcomes.Given as goal

abbrev pub invariant-loop-o : goal.invariant-loop-o
invariant-loop-o l = Writing outcome_line l.fn.to l.to l.outcomes l.o-index
