use Rattle.std.proofs.Common.{◌≡◌, take}
use Rattle.lh_unit.specs.Arena.{unit_text_at}
use Rattle.lh_unit.specs.Design.{signal_ranges, top_signals}
use Rattle.lh_elab.specs.Builds.{AddsSignals, KeepsRest}
use Rattle.lh_elab.proofs.build.Building.put_args.Given as goal

abbrev pub invariant-loop-arg : goal.invariant-loop-arg
invariant-loop-arg l = record {
  adds : AddsSignals l.initial.self l.self 0 (top_signals (take l.arg-index (unit_text_at l.m l.top.0).args));
  rest : KeepsRest l.initial.self l.self;
  ranges : l.ranges ≡ signal_ranges l.initial.self.lo (top_signals (take l.arg-index (unit_text_at l.m l.top.0).args));
}
