use Rattle.std.proofs.Common.{take}
use Rattle.lh_region.proofs.EntryConstants.{StartSoFar}
use Rattle.lh_region.proofs.start.start_of.Given as goal

abbrev pub invariant-loop-line : goal.invariant-loop-line
invariant-loop-line l = StartSoFar l.fn.terms l.terms l.initial.start l.start (take l.line-index l.line-items)
