use Rattle.lh_eval_laws.proofs.FitLaws.{process-begins, begins-fit}
use Rattle.lh_eval_laws.proofs.begin_law.Goals as goal

pub returns : goal.returns
returns c = record {
  processes = λ a u o h e g args w f. process-begins a u o h g e args w f;
  entities = λ a u o h e g args sigs w f. begins-fit a u o h g e args sigs w f;
}
