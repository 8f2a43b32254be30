use Rattle.lh_eval_laws.proofs.SlotsFit.{operations-have, probes-have, drives-have}
use Rattle.lh_eval_laws.proofs.operand_law.Goals as goal

pub returns : goal.returns
returns c = record { operations = operations-have; probes = probes-have; drives = drives-have }
