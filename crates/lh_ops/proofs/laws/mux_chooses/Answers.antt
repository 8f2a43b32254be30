use Rattle.lh_ops.proofs.BooleanLemmas.{mux_chooses_lem}
use Rattle.lh_ops.proofs.laws.mux_chooses.Goals as goal

pub returns : goal.returns
returns c = mux_chooses_lem
