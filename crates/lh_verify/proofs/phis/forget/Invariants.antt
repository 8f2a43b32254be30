use Rattle.std.proofs.Common.{length, drop}
use Rattle.lh_verify.specs.Counting.{CountsEdges}
use Rattle.lh_verify.proofs.phis.forget.Given as goal

abbrev pub invariant-loop-edge : goal.invariant-loop-edge
invariant-loop-edge l = CountsEdges (length l.initial.counts) (drop l.edge-index l.edges) l.counts
