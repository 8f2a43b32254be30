use Rattle.std.proofs.Common.{◌≡◌, ◌<◌, ◌++◌, List, map, drop}
use Rattle.lh_types.specs.declared.part.Range.{Range}
use Rattle.lh_unit.specs.Arena.{unit_count, inst_count}
use Rattle.lh_unit.specs.Held.{Env}
use Rattle.lh_unit.specs.Hierarchy.{children_of}
use Rattle.lh_unit.specs.Within.{Each}
use Rattle.lh_unit.specs.declared.inst.InstId.{InstId}
use Rattle.lh_elab_plan.specs.declared.plan.PlanChild.{PlanChild}
use Rattle.lh_elab_plan.specs.Statics.{by_of, StaticsFollow}
use Rattle.lh_elab_plan.specs.Plans.{child_of, ChildSmall, PartsSmall}
use Rattle.lh_elab_plan.proofs.StaticSteps.{line_in}
use Rattle.lh_elab_plan.proofs.plan.Plan.put_children.Given as goal

abbrev pub invariant-loop-inst : goal.invariant-loop-inst
invariant-loop-inst l = record {
  children : (args sigs : List Range) (e : Env) → StaticsFollow l.m l.unit.0 args sigs (by_of l.statics) e
      → map (child_of l.m args sigs) l.self.children.items ++ children_of e (map (line_in l.m l.unit.0) (drop l.inst-index l.insts)) ≡ map (child_of l.m args sigs) l.initial.self.children.items
      ++ children_of e (map (line_in l.m l.unit.0) l.insts);
  small : Each ChildSmall l.initial.self.children.items → PartsSmall l.statics → Each ChildSmall l.self.children.items;
  units : Each (λ (c : PlanChild). c.unit.0 < unit_count l.m) l.initial.self.children.items → Each (λ (c : PlanChild). c.unit.0 < unit_count l.m) l.self.children.items;
  signals : l.self.signals.items ≡ l.initial.self.signals.items;
  within : Each (λ (i : InstId). i.0 < inst_count l.m l.unit.0) (drop l.inst-index l.insts);
}
