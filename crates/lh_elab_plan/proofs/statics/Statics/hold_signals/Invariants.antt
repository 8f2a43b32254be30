use Rattle.std.proofs.Common.{◌≡◌, ◌<◌, ◌≤◌, drop, length}
use Rattle.lh_unit.specs.Arena.{table_at, inst_count}
use Rattle.lh_unit.specs.Within.{Each}
use Rattle.lh_unit.specs.declared.inst.InstId.{InstId}
use Rattle.lh_elab_plan.specs.Statics.{by_of, HasSlots, sigs_begun}
use Rattle.lh_elab_plan.proofs.statics.Statics.hold_signals.Given as goal

abbrev pub invariant-loop-inst : goal.invariant-loop-inst
invariant-loop-inst l = record {
  same : sigs_begun (table_at l.m l.unit.0) l.k (drop l.inst-index l.insts) (by_of l.self) ≡ sigs_begun (table_at l.m l.unit.0) 0 l.insts (by_of l.initial.self);
  within : Each (λ (i : InstId). i.0 < inst_count l.m l.unit.0) (drop l.inst-index l.insts);
  slots : HasSlots l.self;
  long : length l.self.slots ≡ length l.initial.self.slots;
  few : l.k ≤ l.inst-index;
}
