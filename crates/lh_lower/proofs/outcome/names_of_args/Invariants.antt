use Rattle.std.proofs.Common.{◌≡◌}
use Rattle.lh_lower.proofs.ArgNames.{names_to}
use Rattle.lh_lower.proofs.outcome.names_of_args.Given as goal

abbrev pub invariant-loop-arg : goal.invariant-loop-arg
invariant-loop-arg l = l.names ≡ names_to l.from l.unit.0 l.args l.arg-index
