use Rattle.lh_cert_def.proofs.OneAnswer.{one-cause, one-first-cause}
use Rattle.lh_cert_def.proofs.laws.one_answer.Goals as goal

pub returns : goal.returns
returns c = record { of_units = one-cause; of_modules = one-first-cause }
