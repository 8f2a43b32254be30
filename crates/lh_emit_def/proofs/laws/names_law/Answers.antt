use Rattle.lh_emit_def.proofs.ValueNames.{next-least}
use Rattle.lh_emit_def.proofs.laws.names_law.Goals as goal

pub returns : goal.returns
returns c = next-least
