use Rattle.std.proofs.Common.{drop}
use Rattle.lh_emit_shapes.proofs.Drives.{ProbesSoFar}
use Rattle.lh_emit_shapes.proofs.bodies.put_probes.Given as goal

abbrev pub invariant-loop-part : goal.invariant-loop-part
invariant-loop-part l = ProbesSoFar l.fn.origin l.parts l.fn.terms l.fn.emitter l.terms l.emitter (drop l.part-index l.parts)
