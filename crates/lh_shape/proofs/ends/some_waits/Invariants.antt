use Rattle.std.proofs.Common.{◌≡◌, drop}
use Rattle.lh_shape.specs.Reasons.{is_wait}
use Rattle.lh_shape.specs.ByIds.{some_way}
use Rattle.lh_shape.proofs.ends.some_waits.Given as goal

abbrev pub invariant-loop-end : goal.invariant-loop-end
invariant-loop-end l = some_way is_wait (drop l.end-index l.ends) ≡ some_way is_wait l.ends
