use Rattle.lh_wave.proofs.ScribeLemmas.{trace_put, begun}
use Rattle.lh_wave.proofs.scribe.Scribe.take.Goals as goal

pub returns-in-Trace-clause-put : goal.returns-in-Trace-clause-put
returns-in-Trace-clause-put c = trace_put _ _ _ _ c.in-Trace.is c.put_frame.ensures

pub returns-in_ok-begin-in-Vcd-None-clause-put : goal.returns-in_ok-begin-in-Vcd-None-clause-put
returns-in_ok-begin-in-Vcd-None-clause-put c =
    begun _ _ _ _ _ c.in-Vcd-None.is c.in-Vcd-None.field-0-is c.in_ok-begin-in-Vcd-None.ensures.values c.in_ok-begin-in-Vcd-None.ensures.left
