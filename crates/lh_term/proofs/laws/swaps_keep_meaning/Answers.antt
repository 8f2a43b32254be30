use Rattle.lh_term.proofs.Swaps.{swap_keeps}
use Rattle.lh_term.proofs.laws.swaps_keep_meaning.Goals as goal

pub returns : goal.returns
returns c = swap_keeps
