use Rattle.lh_eval_laws.proofs.FindingPass.{passes-find}
use Rattle.lh_eval_laws.proofs.FindingElab.{parts-are-found, initials-are-found}
use Rattle.lh_eval_laws.proofs.find_law.Goals as goal

pub returns : goal.returns
returns c = record {
  passes = λ a u o h k g args sigs now memory t f. passes-find a u o h g k args sigs now memory t f;
  parts = λ a u o h k g args sigs w f. parts-are-found a u o h g k args sigs w f;
  initials = λ a u o h k g. initials-are-found a u o h g k;
}
