use Rattle.std.proofs.Common.{map, take}
use Rattle.lh_read_phrases.specs.SyntaxOf.{trigger_of}
use Rattle.lh_read.specs.Placing.{TriggersPlaced}
use Rattle.lh_read.proofs.ids.Resolver.triggers.Given as goal

abbrev pub invariant-loop-one : goal.invariant-loop-one
invariant-loop-one l = TriggersPlaced l.fn.self.module l.self.module l.unit l.to (map trigger_of (take l.one-index l.from))
