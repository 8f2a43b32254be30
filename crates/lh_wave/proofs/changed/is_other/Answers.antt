use Rattle.lh_wave.proofs.ChangedLemmas.{none_other}
use Rattle.lh_wave.proofs.changed.is_other.Goals as goal

pub returns-in-None : goal.returns-in-None
returns-in-None c = none_other _ _ c.in-None.is
