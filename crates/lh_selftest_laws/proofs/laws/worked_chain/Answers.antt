use Rattle.std.proofs.Common.{refl}
use Rattle.std.specs.Fmt.{digits}
use Rattle.lh_selftest_laws.proofs.laws.worked_chain.Goals as goal

pub returns : goal.returns
unfolding digits
returns c = refl
