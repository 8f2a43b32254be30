use Rattle.lh_eval_laws.proofs.FitLaws.{unit-is-sound}
use Rattle.lh_eval_laws.proofs.unit_law.Goals as goal

pub returns : goal.returns
returns c a u o h b g = unit-is-sound a u o h g b
