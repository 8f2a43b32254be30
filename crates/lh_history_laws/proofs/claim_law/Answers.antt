use Rattle.lh_history_laws.proofs.Instants.{instant_one}
use Rattle.lh_history_laws.proofs.Claims.{claim_total, made_together}
use Rattle.lh_history_laws.proofs.claim_law.Goals as goal

pub returns : goal.returns
returns c = record { order = claim_total; instants = instant_one; together = made_together }
