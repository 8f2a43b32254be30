use Rattle.lh_selftest_laws.proofs.ChainDesign.{chain-elaborates}
use Rattle.lh_selftest_laws.proofs.laws.elaborates_law.Goals as goal

pub returns : goal.returns
returns c = record { elaborates = chain-elaborates }
