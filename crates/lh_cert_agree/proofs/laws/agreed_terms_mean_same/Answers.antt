use Rattle.lh_cert_agree.proofs.Agreed.{agreed}
use Rattle.lh_cert_agree.proofs.laws.agreed_terms_mean_same.Goals as goal

pub returns : goal.returns
returns c = agreed
