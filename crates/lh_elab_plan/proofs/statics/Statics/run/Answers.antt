use Rattle.std.proofs.Common.{◌≡◌, ◌<◌, List, get_or, refl, sym, subst}
use Rattle.lh_types.specs.declared.part.Range.{Range}
use Rattle.lh_unit.specs.Contents.{LineText}
use Rattle.lh_unit.specs.Arena.{inst_count, value_count, unit_text_at, naming}
use Rattle.lh_unit.specs.Held.{Env}
use Rattle.lh_unit.specs.Hierarchy.{if_held, static_of}
use Rattle.lh_unit.specs.Naming.{maybe_text, inst_text}
use Rattle.lh_unit.specs.declared.inst.InstId.{InstId}
use Rattle.lh_unit.proofs.ById.{result-within}
use Rattle.lh_eval.specs.Sound.{InstIsSound}
use Rattle.lh_eval.proofs.BeginSteps.{maybe-in}
use Rattle.lh_elab_plan.specs.Statics.{by_of, StaticsFollow}
use Rattle.lh_verify_laws.proofs.EachItem.{each-rest}
use Rattle.lh_elab_plan.proofs.StaticSteps.{line_in, more-fit, goes-on, ends}
use Rattle.lh_elab_plan.proofs.statics.Statics.run.Goals as goal

pub loop-inst-init : goal.loop-inst-init
loop-inst-init c = record { slots = c.requires.slots; fit = c.requires.fit; within = c.requires.insts; sound = c.requires.sound; goes = λ args sigs e f. record { held = e; follows = f; same = refl } }

pub run_inst-requires-clause-name : goal.run_inst-requires-clause-name
run_inst-requires-clause-name c = rw c.result_of.ensures.value
    (maybe-in (value_count c.args.m.now c.args.unit.0) c.loop-inst.self.slots _ c.loop-inst.invariant.fit.holds.long
    (result-within c.args.m.now c.args.unit.0 c.result_of.ensures.sound c.requires.unit _))

pub run_inst-requires-clause-sound : goal.run_inst-requires-clause-sound
run_inst-requires-clause-sound c =
    let m = c.args.m.now in
    let u = c.args.unit.0 in
    let d : InstId = record { 0 = 0 } in
    let x = each-rest (λ (i : InstId). InstIsSound (unit_text_at m u) (line_in m u i)) c.args.insts.now c.loop-inst.inst-index d c.loop-inst-test.true c.loop-inst.invariant.sound in
    let e : line_in m u (get_or c.args.insts.now c.loop-inst.inst-index d) ≡ record { result = maybe_text (naming m u) c.result_of.result; inst = inst_text (naming m u) c.inst.result.now } =
    λ k. record { result = maybe_text (naming m u) (sym c.result_of.ensures.value k); inst = inst_text (naming m u) (sym c.inst.ensures.inst k) } in
    subst (InstIsSound (unit_text_at m u)) e x.0

pub loop-inst-preserved : goal.loop-inst-preserved
loop-inst-preserved c =
    let m = c.args.m.now in
    let u = c.args.unit.0 in
    let d : InstId = record { 0 = 0 } in
    let i = get_or c.args.insts.now c.loop-inst.inst-index d in
    let x = each-rest (λ (j : InstId). InstIsSound (unit_text_at m u) (line_in m u j)) c.args.insts.now c.loop-inst.inst-index d c.loop-inst-test.true c.loop-inst.invariant.sound in
    let y = each-rest (λ (j : InstId). j.0 < inst_count m u) c.args.insts.now c.loop-inst.inst-index d c.loop-inst-test.true c.loop-inst.invariant.within in
    let go : (args sigs : List Range) (e : Env) → StaticsFollow m u args sigs (by_of c.loop-inst.self) e
    → StaticsFollow m u args sigs (by_of c.run_inst.new.self) (if_held e (line_in m u i).result (static_of (unit_text_at m u) e (line_in m u i).inst)) =
    λ args sigs e f. subst (λ (l : LineText). StaticsFollow m u args sigs (by_of c.run_inst.new.self) (if_held e l.result (static_of (unit_text_at m u) e l.inst)))
    (λ k. record { result = maybe_text (naming m u) (c.result_of.ensures.value k); inst = inst_text (naming m u) (c.inst.ensures.inst k) })
    (c.in_ok-run_inst.ensures.follows args sigs e f) in
    record {
      slots = c.in_ok-run_inst.ensures.slots;
      fit = more-fit m u c.loop-inst.self c.run_inst.new.self (line_in m u i) c.loop-inst.invariant.slots x.0 c.loop-inst.invariant.fit go;
      within = y.1;
      sound = x.1;
      goes = λ args sigs e f. goes-on m u args sigs (by_of c.loop-inst.self) (by_of c.run_inst.new.self) (line_in m u) c.args.insts.now c.loop-inst.inst-index d _ c.loop-inst-test.true (go args sigs)
          (c.loop-inst.invariant.goes args sigs e f);
    }

pub returns-clause-follows : goal.returns-clause-follows
returns-clause-follows c = λ args sigs e f. ends c.args.m.now c.args.unit.0 args sigs (by_of c.loop-inst.self) (line_in c.args.m.now c.args.unit.0) c.args.insts.now c.loop-inst.inst-index _
    c.loop-inst-test.false (c.loop-inst.invariant.goes args sigs e f)
