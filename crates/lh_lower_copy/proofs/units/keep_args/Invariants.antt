use Rattle.std.proofs.Common.{drop}
use Rattle.lh_lower_copy.proofs.Rests.{ArgsLeft}
use Rattle.lh_lower_copy.proofs.units.keep_args.Given as goal

abbrev pub invariant-loop-arg : goal.invariant-loop-arg
invariant-loop-arg l = ArgsLeft l.from l.fn.m l.m l.unit (drop l.arg-index l.args)
