use Rattle.std.proofs.Common.{◌<◌, drop, List, map}
use Rattle.lh_types.specs.declared.part.Range.{Range}
use Rattle.lh_unit.specs.Arena.{inst_count, unit_text_at}
use Rattle.lh_unit.specs.Held.{Env}
use Rattle.lh_unit.specs.Hierarchy.{static_from}
use Rattle.lh_unit.specs.Within.{Each}
use Rattle.lh_unit.specs.declared.inst.InstId.{InstId}
use Rattle.lh_eval.specs.Sound.{InstIsSound}
use Rattle.lh_elab_plan.specs.Statics.{by_of, HasSlots, StaticsFollow, FitsSomething}
use Rattle.lh_elab_plan.proofs.StaticSteps.{line_in, Leads}
use Rattle.lh_elab_plan.proofs.statics.Statics.run.Given as goal

abbrev pub invariant-loop-inst : goal.invariant-loop-inst
invariant-loop-inst l = record {
  slots : HasSlots l.self;
  fit : FitsSomething l.m l.unit.0 l.self;
  within : Each (λ (i : InstId). i.0 < inst_count l.m l.unit.0) (drop l.inst-index l.insts);
  sound : Each (λ (i : InstId). InstIsSound (unit_text_at l.m l.unit.0) (line_in l.m l.unit.0 i)) (drop l.inst-index l.insts);
  goes : (args sigs : List Range) (e : Env) → StaticsFollow l.m l.unit.0 args sigs (by_of l.initial.self) e
      → Leads l.m l.unit.0 args sigs (by_of l.self) (map (line_in l.m l.unit.0) (drop l.inst-index l.insts)) (static_from (unit_text_at l.m l.unit.0) e (map (line_in l.m l.unit.0) l.insts));
}
