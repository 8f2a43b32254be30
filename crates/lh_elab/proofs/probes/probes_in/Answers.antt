use Rattle.std.proofs.Common.{◌<◌, [], ◌++◌, map, ap, ◌∙◌}
use Rattle.lh_unit.specs.Arena.{naming, inst_count}
use Rattle.lh_unit.specs.Hierarchy.{part_if_probe}
use Rattle.lh_unit.specs.Naming.{inst_text}
use Rattle.lh_unit.specs.declared.inst.Inst.{Inst}
use Rattle.lh_unit.specs.declared.inst.InstId.{InstId}
use Rattle.lh_elab.specs.Probed.{above}
use Rattle.lh_verify_laws.proofs.EachItem.{each-rest}
use Rattle.lh_elab_plan.proofs.StaticSteps.{line_in}
use Rattle.lh_elab.proofs.EntityProbes.{more-probes, all-probes}
use Rattle.lh_elab.proofs.probes.probes_in.Goals as goal

pub loop-inst-preserved : goal.loop-inst-preserved
loop-inst-preserved c =
    let m = c.args.m.now in
    let u = c.args.unit.0 in
    let d : InstId = record { 0 = 0 } in
    let y = each-rest (λ (j : InstId). j.0 < inst_count m u) c.args.insts.now c.loop-inst.inst-index d c.loop-inst-test.true c.loop-inst.invariant.within in
    record {
      probes = λ args sigs e f.
          more-probes e (line_in m u) c.args.insts.now c.loop-inst.inst-index d (map (above args sigs) c.loop-inst.probes) (map (above args sigs) c.put_if_probe.new.probes) _ c.loop-inst-test.true
          (c.in_ok-put_if_probe.ensures m u args sigs e f ∙ ap (λ (i : Inst). map (above args sigs) c.loop-inst.probes ++ part_if_probe e (inst_text (naming m u) i) []) c.inst.ensures.inst)
          (c.loop-inst.invariant.probes args sigs e f);
      within = y.1;
    }

pub returns : goal.returns
returns c = λ args sigs e f. all-probes e (line_in c.args.m.now c.args.unit.0) c.args.insts.now c.loop-inst.inst-index (map (above args sigs) c.loop-inst.probes) _ c.loop-inst-test.false
    (c.loop-inst.invariant.probes args sigs e f)
