use Rattle.lh_term.proofs.Sound.{operation_sound}
use Rattle.lh_term.proofs.laws.operations_keep_meaning.Goals as goal

pub returns : goal.returns
returns c = operation_sound
