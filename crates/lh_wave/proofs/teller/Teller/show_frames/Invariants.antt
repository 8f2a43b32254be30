use Rattle.std.proofs.Common.{◌≡◌, ◌≤◌, ◌-◌, map}
use Rattle.lh_kernel.specs.Simulation.{StandsFor}
use Rattle.lh_unit.specs.World.{World}
use Rattle.lh_wave.specs.Going.{KeepsSignals, HasWrittenUpTo, GoesOn, going, shown_on, values_of_last}
use Rattle.lh_wave.proofs.teller.Teller.show_frames.Given as goal

abbrev pub invariant-loop-step : goal.invariant-loop-step
invariant-loop-step g l = record {
  steady : KeepsSignals l.self.scribe;
  arena : l.sim.arena ≡ l.fn.sim.arena;
  design : l.sim.design ≡ l.fn.sim.design;
  never_fall : g.K.Sink.faults l.fn.out ≤ g.K.Sink.faults l.out;
  course : (w : World) → StandsFor l.fn.sim w → HasWrittenUpTo l.fn.self.scribe (values_of_last l.fn.sim.arena l.fn.sim.design w) →
      GoesOn l.fn.sim.arena l.fn.sim.design (l.steps - l._step) l.sim l.self
      (going l.fn.self (values_of_last l.fn.sim.arena l.fn.sim.design w) (map g.W.Watcher.member l.fn.ws.items)
      (shown_on l.fn.sim.arena l.fn.sim.design l.steps w (map g.W.Watcher.member l.fn.ws.items)) (g.K.Sink.written l.fn.out) l.fn.reports.items)
      (map g.W.Watcher.member l.ws.items) (g.K.Sink.written l.out) l.reports.items;
}
