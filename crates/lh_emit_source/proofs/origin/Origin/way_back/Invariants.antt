use Rattle.std.proofs.Common.{◌-◌, length}
use Rattle.lh_emit_source.proofs.WaysBack.{GoingBack}
use Rattle.lh_emit_source.proofs.origin.Origin.way_back.Given as goal

abbrev pub invariant-loop-step : goal.invariant-loop-step
invariant-loop-step l = GoingBack l.self.flat.now l.self.parts.now.steps.given.items l.fn.from.0 l.way l.value.0

abbrev pub decreases-loop-step : goal.decreases-loop-step
decreases-loop-step l = l.self.flat.now.values - length l.way
