use Rattle.std.proofs.Common.{◌≡◌, ◌++◌, take}
use Rattle.lh_shape.proofs.ends.add_parts.Given as goal

abbrev pub invariant-loop-part : goal.invariant-loop-part
invariant-loop-part l = l.waited ≡ l.fn.waited ++ take l.part-index l.parts
