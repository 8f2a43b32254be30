use Rattle.lh_cert_emitted.proofs.Said.{comb-says, once-says, edge-says}
use Rattle.lh_cert_emitted.proofs.laws.emitted_say_rows.Goals as goal

pub returns-clause-comb : goal.returns-clause-comb
returns-clause-comb c = comb-says

pub returns-clause-once : goal.returns-clause-once
returns-clause-once c = once-says

pub returns-clause-edge : goal.returns-clause-edge
returns-clause-edge c = edge-says
