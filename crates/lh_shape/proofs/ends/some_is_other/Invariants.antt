use Rattle.std.proofs.Common.{◌≡◌, drop}
use Rattle.lh_region.specs.Stands.{way_text}
use Rattle.lh_shape.specs.ByIds.{some_way, is_other_wait}
use Rattle.lh_shape.proofs.ends.some_is_other.Given as goal

abbrev pub invariant-loop-end : goal.invariant-loop-end
invariant-loop-end l = some_way (is_other_wait (way_text l.way)) (drop l.end-index l.ends) ≡ some_way (is_other_wait (way_text l.way)) l.ends
