use Rattle.lh_shape.proofs.MergedDriveLaws.{merged-wish, merged-typed, merged-reads, merged-drives-drive}
use Rattle.lh_shape.proofs.laws.merged_drives_law.Goals as goal

pub returns : goal.returns
returns c = record { wish = merged-wish; typed = merged-typed; read = merged-reads; drive = merged-drives-drive }
