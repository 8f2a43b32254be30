use Rattle.std.proofs.Common.{◌≡◌, drop}
use Rattle.lh_shape.specs.Reasons.{is_halt}
use Rattle.lh_shape.specs.ByIds.{every_way}
use Rattle.lh_shape.proofs.ends.all_halt.Given as goal

abbrev pub invariant-loop-end : goal.invariant-loop-end
invariant-loop-end l = every_way is_halt (drop l.end-index l.ends) ≡ every_way is_halt l.ends
