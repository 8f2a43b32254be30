use Rattle.std.proofs.Common.{length, take}
use Rattle.lh_verify.specs.Counting.{CountsEdges}
use Rattle.lh_verify.proofs.phis.count.Given as goal

abbrev pub invariant-loop-edge : goal.invariant-loop-edge
invariant-loop-edge l = CountsEdges (length l.initial.counts) (take l.edge-index l.edges) l.counts
