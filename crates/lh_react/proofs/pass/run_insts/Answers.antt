use Rattle.std.proofs.Common.{◌<◌, get_or, refl}
use Rattle.lh_unit.specs.Arena.{inst_count, unit_text_at}
use Rattle.lh_unit.specs.declared.inst.InstId.{InstId}
use Rattle.lh_eval.specs.Sound.{InstIsSound}
use Rattle.lh_react.specs.Standing.{line_in}
use Rattle.lh_verify_laws.proofs.EachItem.{each-rest}
use Rattle.lh_react.proofs.InstsSteps.{more-fit, goes-on, ends}
use Rattle.lh_react.proofs.pass.run_insts.Goals as goal

pub loop-inst-init : goal.loop-inst-init
loop-inst-init c = record {
  fit = c.requires.fit;
  within = c.requires.insts;
  sound = c.requires.sound;
  goes = λ p st. record { passed = p; stands = st; same = refl };
}

pub loop-inst-preserved : goal.loop-inst-preserved
loop-inst-preserved c =
    let m = c.args.m.now in
    let u = c.args.unit.0 in
    let d : InstId = record { 0 = 0 } in
    let x = each-rest (λ (i : InstId). InstIsSound (unit_text_at m u)
    (line_in m u i)) c.args.insts.now c.loop-inst.inst-index d c.loop-inst-test.true c.loop-inst.invariant.sound in
    let y = each-rest (λ (i : InstId). i.0 < inst_count m u) c.args.insts.now c.loop-inst.inst-index d c.loop-inst-test.true c.loop-inst.invariant.within in
    record {
      fit = more-fit m u c.args.now.now c.args.state.now.memory c.args.at c.loop-inst.run c.run_inst.new.run
          (get_or c.args.insts.now c.loop-inst.inst-index d) c.loop-inst.invariant.fit x.0 c.in_ok-run_inst.ensures;
      within = y.1;
      sound = x.1;
      goes = λ p st. goes-on m u c.args.now.now c.args.state.now.memory c.args.at c.loop-inst.run c.run_inst.new.run c.args.insts.now c.loop-inst.inst-index d _
          c.loop-inst-test.true c.in_ok-run_inst.ensures (c.loop-inst.invariant.goes p st);
    }

pub returns : goal.returns
returns c = λ p st. ends c.args.m.now c.args.unit.0 c.args.now.now c.args.state.now.memory c.args.at c.loop-inst.run c.args.insts.now c.loop-inst.inst-index _
    c.loop-inst-test.false (c.loop-inst.invariant.goes p st)
