use Rattle.lh_flat.proofs.Names.{renames_as_copied}
use Rattle.lh_flat.proofs.laws.renaming_law.Goals as goal

pub returns : goal.returns
returns c = renames_as_copied
