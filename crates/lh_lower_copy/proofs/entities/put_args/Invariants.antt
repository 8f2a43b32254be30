use Rattle.std.proofs.Common.{drop}
use Rattle.lh_lower_copy.proofs.Bodies.{PortsLeft}
use Rattle.lh_lower_copy.proofs.entities.put_args.Given as goal

abbrev pub invariant-loop-k : goal.invariant-loop-k
invariant-loop-k l = PortsLeft l.from l.fn.m l.m l.unit (drop l.k l.arg-items)
