use Rattle.lh_flat.proofs.Lengths.{lengths_add}
use Rattle.lh_flat.proofs.laws.length_law.Goals as goal

pub returns : goal.returns
returns c = lengths_add
