use Rattle.lh_eval_laws.proofs.FitLaws.{keeps-fit}
use Rattle.lh_eval_laws.proofs.pass_law.Goals as goal

pub returns : goal.returns
returns c u now memory t p l s f = keeps-fit u now memory t p l s f
