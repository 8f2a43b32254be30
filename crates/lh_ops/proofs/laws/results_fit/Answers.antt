use Rattle.lh_ops.proofs.TypeLemmas.{results_fit_lem}
use Rattle.lh_ops.proofs.laws.results_fit.Goals as goal

pub returns : goal.returns
returns c = results_fit_lem
