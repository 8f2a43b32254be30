use Rattle.lh_term.proofs.Conditions.{condition_sound}
use Rattle.lh_term.proofs.laws.conditions_are_conjunctions.Goals as goal

pub returns : goal.returns
returns c = condition_sound
