use Rattle.std.proofs.Common.{◌<◌, [], ◌++◌, map, get_or, Option, refl, sym, ◌∙◌, subst}
use Rattle.lh_unit.specs.Arena.{naming, value_count, inst_count, unit_text_at}
use Rattle.lh_unit.specs.Hierarchy.{signal_if}
use Rattle.lh_unit.specs.Naming.{inst_text, maybe_text}
use Rattle.lh_unit.specs.Table.{ResultWithin}
use Rattle.lh_unit.specs.declared.inst.Inst.{Inst}
use Rattle.lh_unit.specs.declared.inst.InstId.{InstId}
use Rattle.lh_unit.specs.declared.inst.ValueId.{ValueId}
use Rattle.lh_unit.proofs.ById.{result-within}
use Rattle.lh_verify_laws.specs.Operands.{RowIs}
use Rattle.lh_eval.specs.Sound.{InstIsSound}
use Rattle.lh_eval_laws.specs.Units.{WritesData, SigWritesData}
use Rattle.lh_elab_plan.specs.Plans.{signal_of}
use Rattle.lh_verify_laws.proofs.EachItem.{each-rest}
use Rattle.lh_elab_plan.proofs.StaticSteps.{line_in}
use Rattle.lh_elab_plan.proofs.PlanSteps.{signal-line}
use Rattle.lh_elab_plan.proofs.ChildSteps.{more-signals, all-signals}
use Rattle.lh_elab_plan.proofs.plan.Plan.put_signals.Goals as goal

pub loop-inst-init : goal.loop-inst-init
loop-inst-init c = record { signals = λ e d. refl; fit = λ x. x; children = refl; within = c.requires.insts; sound = c.requires.sound; writes = c.requires.writes }

pub put_if_signal-requires-clause-line : goal.put_if_signal-requires-clause-line
put_if_signal-requires-clause-line c =
    let m = c.args.m.now in
    let u = c.args.unit.0 in
    let f = naming m u in
    let d : InstId = record { 0 = 0 } in
    let i = get_or c.args.insts.now c.loop-inst.inst-index d in
    let x = each-rest (λ (j : InstId). InstIsSound (unit_text_at m u) (line_in m u j)) c.args.insts.now c.loop-inst.inst-index d c.loop-inst-test.true c.loop-inst.invariant.sound in
    let w = each-rest (λ (j : InstId). WritesData (line_in m u j)) c.args.insts.now c.loop-inst.inst-index d c.loop-inst-test.true c.loop-inst.invariant.writes in
    let row : RowIs (unit_text_at m u) (inst_text f c.inst.result.now) = subst (λ (y : Inst). RowIs (unit_text_at m u) (inst_text f y)) (sym c.inst.ensures.inst) x.0.row in
    let writes : SigWritesData (maybe_text f c.result_of.result) (inst_text f c.inst.result.now) =
    subst (λ (y : Inst). SigWritesData (maybe_text f c.result_of.result) (inst_text f y)) (sym c.inst.ensures.inst)
    (subst (λ (y : Option ValueId). SigWritesData (maybe_text f y) (line_in m u i).inst) (sym c.result_of.ensures.value) w.0) in
    let within : ResultWithin (value_count m u) c.result_of.result = subst (ResultWithin (value_count m u)) (sym c.result_of.ensures.value) (result-within m u c.requires.arena c.requires.unit i.0) in
    signal-line m u c.args.values.now c.requires.fit c.result_of.result c.inst.result.now within c.inst.ensures.placed row writes

pub loop-inst-preserved : goal.loop-inst-preserved
loop-inst-preserved c =
    let m = c.args.m.now in
    let u = c.args.unit.0 in
    let f = naming m u in
    let d : InstId = record { 0 = 0 } in
    let x = each-rest (λ (j : InstId). InstIsSound (unit_text_at m u) (line_in m u j)) c.args.insts.now c.loop-inst.inst-index d c.loop-inst-test.true c.loop-inst.invariant.sound in
    let w = each-rest (λ (j : InstId). WritesData (line_in m u j)) c.args.insts.now c.loop-inst.inst-index d c.loop-inst-test.true c.loop-inst.invariant.writes in
    let y = each-rest (λ (j : InstId). j.0 < inst_count m u) c.args.insts.now c.loop-inst.inst-index d c.loop-inst-test.true c.loop-inst.invariant.within in
    let cur = map signal_of c.loop-inst.self.signals.items in
    record {
      signals = λ e k.
          more-signals e (line_in m u) c.args.insts.now c.loop-inst.inst-index d cur (map signal_of c.put_if_signal.new.self.signals.items) _ c.loop-inst-test.true
          (c.in_ok-put_if_signal.ensures.signals e k ∙ (λ j. cur ++ signal_if e (inst_text f (c.inst.ensures.inst j)) (maybe_text f (c.result_of.ensures.value j)) []))
          (c.loop-inst.invariant.signals e k);
      fit = λ k. c.in_ok-put_if_signal.ensures.fit (c.loop-inst.invariant.fit k);
      children = c.in_ok-put_if_signal.ensures.children ∙ c.loop-inst.invariant.children;
      within = y.1;
      sound = x.1;
      writes = w.1;
    }

pub returns-clause-signals : goal.returns-clause-signals
returns-clause-signals c = λ e k. all-signals e (line_in c.args.m.now c.args.unit.0) c.args.insts.now c.loop-inst.inst-index (map signal_of c.loop-inst.self.signals.items) _ c.loop-inst-test.false
    (c.loop-inst.invariant.signals e k)
