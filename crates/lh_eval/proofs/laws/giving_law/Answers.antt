use Rattle.lh_eval.proofs.GivesFit.{constants-fit, operations-fit, probes-fit, held-still-fits}
use Rattle.lh_eval.proofs.laws.giving_law.Goals as goal

pub returns : goal.returns
returns c = record { constants = constants-fit; operations = operations-fit; probes = probes-fit; held = held-still-fits }
