use Rattle.lh_trace_laws.proofs.TraceLaw.{bits_stay_law}
use Rattle.lh_trace_laws.proofs.frame_law.Goals as goal

pub returns : goal.returns
returns c = bits_stay_law
