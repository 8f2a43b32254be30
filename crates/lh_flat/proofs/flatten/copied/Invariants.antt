use Rattle.std.proofs.Common.{◌≡◌, ◌++◌, drop}
use Rattle.lh_flat.proofs.flatten.copied.Given as goal

abbrev pub invariant-loop-arg : goal.invariant-loop-arg
invariant-loop-arg l = l.list ++ drop l.arg-index l.args ≡ l.args
