use Rattle.std.proofs.Common.{◌≡◌, drop}
use Rattle.lh_shape.specs.Reasons.{is_halt}
use Rattle.lh_shape.specs.ByIds.{some_way}
use Rattle.lh_shape.proofs.ends.some_halts.Given as goal

abbrev pub invariant-loop-end : goal.invariant-loop-end
invariant-loop-end l = some_way is_halt (drop l.end-index l.ends) ≡ some_way is_halt l.ends
