use Rattle.lh_term.proofs.TermTypes.{mean_fits}
use Rattle.lh_term.proofs.laws.meanings_fit.Goals as goal

pub returns : goal.returns
returns c = mean_fits
