use Rattle.std.proofs.Common.{drop}
use Rattle.lh_emit_shapes.proofs.Drives.{DrivesSoFar}
use Rattle.lh_emit_shapes.proofs.bodies.put_drives.Given as goal

abbrev pub invariant-loop-row : goal.invariant-loop-row
invariant-loop-row l = DrivesSoFar l.fn.origin l.rows l.fn.terms l.fn.emitter l.terms l.emitter (drop l.row-index l.rows)
