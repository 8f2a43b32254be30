use Rattle.lh_types.specs.Pictures.{showing_of}
use Rattle.lh_wave.specs.TraceText.{change_line}
use Rattle.lh_wave.proofs.FrameLemmas.{Writing}
use Rattle.lh_wave.proofs.trace.put_changes.Given as goal

abbrev pub invariant-loop-c : goal.invariant-loop-c
invariant-loop-c l = Writing (λ c. change_line (showing_of c)) l.fn.to l.to l.changes l.c-index
