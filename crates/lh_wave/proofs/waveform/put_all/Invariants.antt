use Rattle.lh_wave.proofs.ValueLines.{AllWriting}
use Rattle.lh_wave.proofs.waveform.put_all.Given as goal

abbrev pub invariant-loop-k : goal.invariant-loop-k
invariant-loop-k l = AllWriting l.fn.to l.to l.now l.k
