use Rattle.lh_term.proofs.Sound.{choice_sound}
use Rattle.lh_term.proofs.laws.choices_keep_meaning.Goals as goal

pub returns : goal.returns
returns c = choice_sound
