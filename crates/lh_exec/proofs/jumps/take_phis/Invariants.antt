use Rattle.std.proofs.Common.{◌≡◌, ◌<◌, ◌++◌, drop, map}
use Rattle.std.specs.Option.{option_map}
use Rattle.lh_unit.specs.Arena.{table_at, inst_count}
use Rattle.lh_unit.specs.Within.{Each}
use Rattle.lh_unit.specs.declared.inst.InstId.{InstId}
use Rattle.lh_exec.specs.Taking.{taken_of, all_taken}
use Rattle.lh_exec.proofs.jumps.take_phis.Given as goal

abbrev pub invariant-loop-inst : goal.invariant-loop-inst
invariant-loop-inst l = record {
  same : option_map (λ ys. map taken_of l.taken.items ++ ys) (all_taken l.frame.block l.frame.slots (table_at l.m l.frame.unit.0) (drop l.inst-index l.insts))
      ≡ all_taken l.frame.block l.frame.slots (table_at l.m l.frame.unit.0) l.insts;
  within : Each (λ (i : InstId). i.0 < inst_count l.m l.frame.unit.0) (drop l.inst-index l.insts);
}
