use Rattle.lh_trace_laws.proofs.FirstFaultLaw.{one_first_fault, faultless_has_none}
use Rattle.lh_trace_laws.proofs.FirstFaultFound.{faultless_or_faulty}
use Rattle.lh_trace_laws.proofs.first_fault_law.Goals as goal

pub returns : goal.returns
returns c = record { one = one_first_fault; none = faultless_has_none; found = faultless_or_faulty }
