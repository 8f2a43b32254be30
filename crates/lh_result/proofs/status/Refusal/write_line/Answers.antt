use Rattle.std.proofs.Common.{ap, sym}
use Rattle.lh_result.specs.StatusLines.{refusal_line}
use Rattle.lh_result.specs.declared.status.Refusal.{Refusal}
use Rattle.lh_result.proofs.Writes.{Puts_same}
use Rattle.lh_result.proofs.status.Refusal.write_line.Goals as goal

pub returns-in-Invalid-clause-puts : goal.returns-in-Invalid-clause-puts
returns-in-Invalid-clause-puts g c =
    Puts_same c.write_inst_fault.result _ _ _ (ap (λ (r : Refusal). refusal_line r) (sym c.in-Invalid.is)) c.write_inst_fault.ensures.puts
