use Rattle.std.proofs.Common.{drop}
use Rattle.lh_shape.specs.Merging.{merged_from}
use Rattle.lh_shape.specs.ByIds.{drive_at, drives_at}
use Rattle.lh_shape.proofs.Merged.{MergedSoFar}
use Rattle.lh_shape.proofs.merge.merged_from.Given as goal

abbrev pub invariant-loop-drive : goal.invariant-loop-drive
invariant-loop-drive l = MergedSoFar l.fn.terms l.terms (merged_from (drive_at l.fn.terms l.first) (drives_at l.fn.terms l.rest)) l.merged l.last (drop l.drive-index l.rest)
