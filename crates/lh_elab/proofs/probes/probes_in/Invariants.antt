use Rattle.std.proofs.Common.{◌≡◌, ◌<◌, ◌++◌, List, map, drop}
use Rattle.lh_types.specs.declared.part.Range.{Range}
use Rattle.lh_unit.specs.Arena.{inst_count}
use Rattle.lh_unit.specs.Held.{Env}
use Rattle.lh_unit.specs.Hierarchy.{probed_parts}
use Rattle.lh_unit.specs.Within.{Each}
use Rattle.lh_unit.specs.declared.inst.InstId.{InstId}
use Rattle.lh_elab.specs.Probed.{above}
use Rattle.lh_elab_plan.specs.Statics.{by_of, StaticsFollow}
use Rattle.lh_elab_plan.proofs.StaticSteps.{line_in}
use Rattle.lh_elab.proofs.probes.probes_in.Given as goal

abbrev pub invariant-loop-inst : goal.invariant-loop-inst
invariant-loop-inst l = record {
  probes : (args sigs : List Range) (e : Env) → StaticsFollow l.m l.unit.0 args sigs (by_of l.statics) e
      → map (above args sigs) l.probes ++ probed_parts e (map (line_in l.m l.unit.0) (drop l.inst-index l.insts)) ≡ probed_parts e (map (line_in l.m l.unit.0) l.insts);
  within : Each (λ (i : InstId). i.0 < inst_count l.m l.unit.0) (drop l.inst-index l.insts);
}
