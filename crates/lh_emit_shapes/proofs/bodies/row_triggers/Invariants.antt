use Rattle.std.proofs.Common.{drop}
use Rattle.lh_emit_shapes.proofs.Registers.{TriggersSoFar}
use Rattle.lh_emit_shapes.proofs.bodies.row_triggers.Given as goal

abbrev pub invariant-loop-trigger : goal.invariant-loop-trigger
invariant-loop-trigger l = TriggersSoFar l.fn.origin l.fn.row l.fn.terms l.fn.emitter l.terms l.emitter l.triggers (drop l.trigger-index l.trigger-items)
