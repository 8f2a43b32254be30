use Rattle.std.proofs.Common.{◌≤◌, length}
use Rattle.lh_io.proofs.Steps.{Wrote}
use Rattle.lh_io.proofs.whole.write_all.Given as goal

abbrev pub invariant-loop-rest : goal.invariant-loop-rest
invariant-loop-rest g l = record {
  wrote : Wrote (g.K.Sink.written l.fn.sink) (g.K.Sink.written l.sink) l.text l.rest;
  never_fall : g.K.Sink.faults l.fn.sink ≤ g.K.Sink.faults l.sink;
}

abbrev pub decreases-loop-rest : goal.decreases-loop-rest
decreases-loop-rest g l = length l.rest
