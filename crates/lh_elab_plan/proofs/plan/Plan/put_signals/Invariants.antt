use Rattle.std.proofs.Common.{◌≡◌, ◌<◌, ◌++◌, map, drop}
use Rattle.lh_unit.specs.Arena.{unit_text_at, inst_count}
use Rattle.lh_unit.specs.Held.{Env}
use Rattle.lh_unit.specs.Hierarchy.{signals_of}
use Rattle.lh_unit.specs.Within.{Each}
use Rattle.lh_unit.specs.declared.inst.InstId.{InstId}
use Rattle.lh_eval.specs.Holding.{Holds}
use Rattle.lh_eval.specs.Sound.{InstIsSound}
use Rattle.lh_eval_laws.specs.Units.{WritesData}
use Rattle.lh_elab_plan.specs.Plans.{signal_of, SignalFits}
use Rattle.lh_elab_plan.proofs.StaticSteps.{line_in}
use Rattle.lh_elab_plan.proofs.plan.Plan.put_signals.Given as goal

abbrev pub invariant-loop-inst : goal.invariant-loop-inst
invariant-loop-inst l = record {
  signals : (e : Env) → Holds l.m l.unit.0 l.values.slots e → map signal_of l.self.signals.items ++ signals_of e (map (line_in l.m l.unit.0) (drop l.inst-index l.insts))
      ≡ map signal_of l.initial.self.signals.items ++ signals_of e (map (line_in l.m l.unit.0) l.insts);
  fit : Each SignalFits l.initial.self.signals.items → Each SignalFits l.self.signals.items;
  children : l.self.children.items ≡ l.initial.self.children.items;
  within : Each (λ (i : InstId). i.0 < inst_count l.m l.unit.0) (drop l.inst-index l.insts);
  sound : Each (λ (i : InstId). InstIsSound (unit_text_at l.m l.unit.0) (line_in l.m l.unit.0 i)) (drop l.inst-index l.insts);
  writes : Each (λ (i : InstId). WritesData (line_in l.m l.unit.0 i)) (drop l.inst-index l.insts);
}
