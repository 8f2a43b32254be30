use Rattle.std.proofs.Common.{[]}
use Rattle.lh_wave.specs.Owned.{AreOwned}
use Rattle.lh_wave.proofs.owned.empty_lists.Given as goal

abbrev pub invariant-loop-place : goal.invariant-loop-place
invariant-loop-place l = AreOwned l.lists l._place []
