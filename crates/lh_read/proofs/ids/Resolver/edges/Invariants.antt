use Rattle.std.proofs.Common.{map, take}
use Rattle.lh_read_phrases.specs.SyntaxOf.{edge_of}
use Rattle.lh_read.specs.Placing.{EdgesPlaced}
use Rattle.lh_read.proofs.ids.Resolver.edges.Given as goal

abbrev pub invariant-loop-one : goal.invariant-loop-one
invariant-loop-one l = EdgesPlaced l.fn.self.module l.self.module l.unit l.to (map edge_of (take l.one-index l.from))
