use Rattle.std.proofs.Common.{take}
use Rattle.lh_read.specs.Placing.{SignalsPlaced}
use Rattle.lh_read.proofs.ids.Resolver.signals.Given as goal

abbrev pub invariant-loop-one : goal.invariant-loop-one
invariant-loop-one l = SignalsPlaced l.fn.self.module l.self.module l.unit l.to (take l.one-index l.from)
