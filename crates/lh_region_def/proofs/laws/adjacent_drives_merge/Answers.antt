use Rattle.lh_region_def.proofs.Adjacent.{adjacent-drives-merge, merged-drives-typed}
use Rattle.lh_region_def.proofs.laws.adjacent_drives_merge.Goals as goal

pub returns : goal.returns
returns c = record { merge = adjacent-drives-merge; typed = merged-drives-typed }
