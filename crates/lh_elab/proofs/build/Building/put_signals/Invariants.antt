use Rattle.std.proofs.Common.{◌≡◌, map, take, drop}
use Rattle.lh_unit.specs.Design.{signal_ranges}
use Rattle.lh_unit.specs.Within.{Each}
use Rattle.lh_elab_plan.specs.Plans.{signal_of, SignalFits}
use Rattle.lh_elab.specs.Builds.{AddsSignals, KeepsRest}
use Rattle.lh_elab.proofs.build.Building.put_signals.Given as goal

abbrev pub invariant-loop-signal : goal.invariant-loop-signal
invariant-loop-signal l = record {
  adds : AddsSignals l.initial.self l.self l.instance (map signal_of (take l.signal-index l.signals));
  rest : KeepsRest l.initial.self l.self;
  ranges : l.ranges ≡ signal_ranges l.initial.self.lo (map signal_of (take l.signal-index l.signals));
  fit : Each SignalFits (drop l.signal-index l.signals);
}
