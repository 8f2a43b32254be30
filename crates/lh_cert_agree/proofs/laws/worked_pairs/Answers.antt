use Rattle.std.proofs.Common.{refl}
use Rattle.lh_cert_agree.specs.Agreeing.{agree}
use Rattle.lh_cert_agree.proofs.laws.worked_pairs.Goals as goal

pub returns : goal.returns
unfolding agree
returns c = record { swapped = refl; denied = refl; chosen = refl; other = refl; wide = refl; inside = refl; wider = refl; same = refl; many = refl }
