use Rattle.std.proofs.Common.{◌≡◌, take, map, ◌++◌}
use Rattle.lh_types.specs.ValueOf.{datum_of}
use Rattle.lh_ops.proofs.parts.append.Given as goal

abbrev pub invariant-loop-v : goal.invariant-loop-v
invariant-loop-v l = l.to ≡ l.fn.to ++ map datum_of (take l.v-index l.from)
