use Rattle.std.proofs.Common.{◌<◌, [], ◌++◌, map, ap, ◌∙◌}
use Rattle.lh_unit.specs.Arena.{naming, unit_count, inst_count}
use Rattle.lh_unit.specs.Hierarchy.{child_if}
use Rattle.lh_unit.specs.Naming.{inst_text}
use Rattle.lh_unit.specs.declared.inst.Inst.{Inst}
use Rattle.lh_unit.specs.declared.inst.InstId.{InstId}
use Rattle.lh_elab_plan.specs.Plans.{child_of}
use Rattle.lh_verify_laws.proofs.EachItem.{each-rest}
use Rattle.lh_elab_plan.proofs.StaticSteps.{line_in}
use Rattle.lh_elab_plan.proofs.ChildSteps.{more-children, all-children, placed-child}
use Rattle.lh_elab_plan.proofs.plan.Plan.put_children.Goals as goal

pub loop-inst-preserved : goal.loop-inst-preserved
loop-inst-preserved c =
    let m = c.args.m.now in
    let u = c.args.unit.0 in
    let d : InstId = record { 0 = 0 } in
    let y = each-rest (λ (j : InstId). j.0 < inst_count m u) c.args.insts.now c.loop-inst.inst-index d c.loop-inst-test.true c.loop-inst.invariant.within in
    record {
      children = λ args sigs e f.
          more-children e (line_in m u) c.args.insts.now c.loop-inst.inst-index d (map (child_of m args sigs) c.loop-inst.self.children.items)
          (map (child_of m args sigs) c.put_if_child.new.self.children.items) _ c.loop-inst-test.true
          (c.in_ok-put_if_child.ensures.children m u args sigs e f
          ∙ ap (λ (i : Inst). map (child_of m args sigs) c.loop-inst.self.children.items ++ child_if e (inst_text (naming m u) i) []) c.inst.ensures.inst)
          (c.loop-inst.invariant.children args sigs e f);
      small = λ k s. c.in_ok-put_if_child.ensures.small (c.loop-inst.invariant.small k s) s;
      units = λ k. c.in_ok-put_if_child.ensures.within (unit_count m) (placed-child m u c.inst.result.now c.inst.ensures.placed) (c.loop-inst.invariant.units k);
      signals = c.in_ok-put_if_child.ensures.signals ∙ c.loop-inst.invariant.signals;
      within = y.1;
    }

pub returns-clause-children : goal.returns-clause-children
returns-clause-children c = λ args sigs e f. all-children e (line_in c.args.m.now c.args.unit.0) c.args.insts.now c.loop-inst.inst-index
    (map (child_of c.args.m.now args sigs) c.loop-inst.self.children.items) _ c.loop-inst-test.false (c.loop-inst.invariant.children args sigs e f)
