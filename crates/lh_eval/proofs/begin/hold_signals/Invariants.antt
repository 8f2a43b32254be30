use Rattle.std.proofs.Common.{◌≡◌, ◌<◌, drop, length}
use Rattle.lh_unit.specs.Arena.{table_at, inst_count, value_count}
use Rattle.lh_unit.specs.Within.{Each}
use Rattle.lh_unit.specs.declared.inst.InstId.{InstId}
use Rattle.lh_eval.specs.Beginning.{signals_given}
use Rattle.lh_eval.proofs.begin.hold_signals.Given as goal

abbrev pub invariant-loop-inst : goal.invariant-loop-inst
invariant-loop-inst l = record {
  same : signals_given (table_at l.m l.unit.0) (drop l.inst-index l.insts) (drop l.k l.ranges) l.slots ≡ signals_given (table_at l.m l.unit.0) l.insts l.ranges l.initial.slots;
  within : Each (λ (i : InstId). i.0 < inst_count l.m l.unit.0) (drop l.inst-index l.insts);
  long : length l.slots ≡ value_count l.m l.unit.0;
}
