use Rattle.std.proofs.Common.{◌≡◌, drop}
use Rattle.std.specs.List.{list_any}
use Rattle.lh_shape.specs.ByIds.{is_uncovered}
use Rattle.lh_shape.proofs.reasons.some_is_uncovered.Given as goal

abbrev pub invariant-loop-part : goal.invariant-loop-part
invariant-loop-part l = list_any (is_uncovered l.on) (drop l.part-index l.parts) ≡ list_any (is_uncovered l.on) l.parts
