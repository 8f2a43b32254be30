use Rattle.std.proofs.Common.{Some, length, map, unwrap_or, false, refl, ap, sym, ◌∙◌}
use Rattle.lh_types.specs.Wish.{Wish}
use Rattle.lh_unit.specs.Arena.{naming, unit_text_at}
use Rattle.lh_unit.specs.Effects.{operated, probed, driven}
use Rattle.lh_unit.specs.Held.{datum_held}
use Rattle.lh_unit.specs.Naming.{operand_text, trigger_text, value_text, maybe_text}
use Rattle.lh_unit.specs.Pass.{triggers_from}
use Rattle.lh_react.specs.Standing.{passed_by}
use Rattle.lh_react.proofs.NamedSteps.{given-ok, wished-ok, tries-ok, pure-fits, prb-fits, drv-fits, reg-in, reg-fits, reg-to}
use Rattle.lh_react.proofs.pass.run_named.Goals as goal

pub run_pure-requires-clause-fit : goal.run_pure-requires-clause-fit
run_pure-requires-clause-fit c = pure-fits c.args.m.now c.args.unit.0
    (length c.args.now.now) c.args.run.now c.requires.fit c.requires.few c.args.name c.args.inst.now c.in-Pure.op c.in-Pure.args c.as_slice.result.now
    c.in-Pure.is c.as_slice.ensures c.requires.sound c.requires.placed

pub run_prb-requires-clause-fit : goal.run_prb-requires-clause-fit
run_prb-requires-clause-fit c = prb-fits c.args.m.now c.args.unit.0
    (length c.args.now.now) c.args.run.now c.requires.fit c.requires.few c.args.name c.args.inst.now c.in-Prb.signal c.args.now.now refl c.in-Prb.is
    c.requires.sound c.requires.placed

pub run_drv-requires-clause-fit : goal.run_drv-requires-clause-fit
run_drv-requires-clause-fit c = drv-fits c.args.m.now c.args.unit.0
    (length c.args.now.now) c.args.run.now c.requires.fit c.requires.few c.args.name c.args.inst.now c.in-Drv.to c.in-Drv.value c.in-Drv.after c.in-Drv.cond
    c.in-Drv.is c.requires.sound c.requires.placed

pub run_reg-requires-clause-within : goal.run_reg-requires-clause-within
run_reg-requires-clause-within c = reg-in c.args.m.now c.args.unit.0
    (length c.args.now.now) c.args.run.now c.requires.fit c.requires.few c.args.name c.args.inst.now c.in-Reg.to c.in-Reg.triggers c.as_slice-in-Reg.result.now
    c.in-Reg.is c.as_slice-in-Reg.ensures c.requires.placed

pub run_reg-requires-clause-fit : goal.run_reg-requires-clause-fit
run_reg-requires-clause-fit c = reg-fits c.args.m.now c.args.unit.0
    (length c.args.now.now) c.args.run.now c.requires.fit c.requires.few c.args.name c.args.inst.now c.in-Reg.to c.in-Reg.triggers c.as_slice-in-Reg.result.now
    c.in-Reg.is c.as_slice-in-Reg.ensures c.requires.sound c.requires.placed

pub returns-in-Const : goal.returns-in-Const
returns-in-Const c = λ p st.
    let m = c.args.m.now in
    given-ok m c.args.unit.0 c.run_const.result p (passed_by m c.args.unit.0 c.args.now.now c.args.state.now.memory c.args.at p c.args.name c.args.inst.now)
    c.args.run.now c.run_const.new.run c.args.name (Some (datum_held c.in-Const.value)) (Some (datum_held c.in-Const.value))
    c.requires.arena c.requires.unit st c.requires.name refl
    (ap (passed_by m c.args.unit.0 c.args.now.now c.args.state.now.memory c.args.at p c.args.name) (sym c.in-Const.is)) c.run_const.ensures

pub returns-in-Pure : goal.returns-in-Pure
returns-in-Pure c = λ p st.
    let m = c.args.m.now in
    let f = naming m c.args.unit.0 in
    given-ok m c.args.unit.0 c.run_pure.result p (passed_by m c.args.unit.0 c.args.now.now c.args.state.now.memory c.args.at p c.args.name c.args.inst.now)
    c.args.run.now c.run_pure.new.run c.args.name
    (operated (unit_text_at m c.args.unit.0) p.held c.in-Pure.op (map (operand_text f) c.as_slice.result.now))
    (operated (unit_text_at m c.args.unit.0) p.held c.in-Pure.op (map (operand_text f) c.in-Pure.args))
    c.requires.arena c.requires.unit st c.requires.name
    (ap (λ l. operated (unit_text_at m c.args.unit.0) p.held c.in-Pure.op (map (operand_text f) l)) c.as_slice.ensures)
    (ap (passed_by m c.args.unit.0 c.args.now.now c.args.state.now.memory c.args.at p c.args.name) (sym c.in-Pure.is)) (c.run_pure.ensures p.held st.holds)

pub returns-in-Prb : goal.returns-in-Prb
returns-in-Prb c = λ p st.
    let m = c.args.m.now in
    let h = probed c.args.now.now p.held (operand_text (naming m c.args.unit.0) c.in-Prb.signal) in
    given-ok m c.args.unit.0 c.run_prb.result p (passed_by m c.args.unit.0 c.args.now.now c.args.state.now.memory c.args.at p c.args.name c.args.inst.now)
    c.args.run.now c.run_prb.new.run c.args.name h h
    c.requires.arena c.requires.unit st c.requires.name refl
    (ap (passed_by m c.args.unit.0 c.args.now.now c.args.state.now.memory c.args.at p c.args.name) (sym c.in-Prb.is))
    (c.run_prb.ensures m c.args.unit.0 p.held st.holds)

pub returns-in-Drv : goal.returns-in-Drv
returns-in-Drv c = λ p st.
    let m = c.args.m.now in
    let f = naming m c.args.unit.0 in
    let d = λ (w : Wish). unwrap_or (driven c.args.at p.held w (operand_text f c.in-Drv.to) (value_text f c.in-Drv.value) (value_text f c.in-Drv.after)
    (maybe_text f c.in-Drv.cond)) w in
    wished-ok m c.args.unit.0 c.run_drv.result p (passed_by m c.args.unit.0 c.args.now.now c.args.state.now.memory c.args.at p c.args.name c.args.inst.now)
    c.args.run.now c.run_drv.new.run
    (d c.args.run.now.wishes) (d p.wish) st (ap d st.wish)
    (ap (passed_by m c.args.unit.0 c.args.now.now c.args.state.now.memory c.args.at p c.args.name) (sym c.in-Drv.is))
    (c.run_drv.ensures m c.args.unit.0 p.held st.holds)

pub returns-in-Reg : goal.returns-in-Reg
returns-in-Reg c = λ p st.
    let m = c.args.m.now in
    let f = naming m c.args.unit.0 in
    let gs = c.as_slice-in-Reg.result.now in
    tries-ok m c.args.unit.0 c.run_reg.result c.args.state.now.memory c.args.at c.in-Reg.to gs p
    (passed_by m c.args.unit.0 c.args.now.now c.args.state.now.memory c.args.at p c.args.name c.args.inst.now) c.args.run.now c.run_reg.new.run st
    (reg-to m c.args.unit.0 (length c.args.now.now) c.args.run.now c.requires.fit c.requires.few c.args.name c.args.inst.now c.in-Reg.to c.in-Reg.triggers
    c.in-Reg.is c.requires.placed)
    (reg-in m c.args.unit.0 (length c.args.now.now) c.args.run.now c.requires.fit c.requires.few c.args.name c.args.inst.now c.in-Reg.to c.in-Reg.triggers gs
    c.in-Reg.is c.as_slice-in-Reg.ensures c.requires.placed)
    (ap (λ l. triggers_from c.args.state.now.memory c.args.at (operand_text f c.in-Reg.to) false p (map (trigger_text f) l)) c.as_slice-in-Reg.ensures
    ∙ ap (passed_by m c.args.unit.0 c.args.now.now c.args.state.now.memory c.args.at p c.args.name) (sym c.in-Reg.is))
    c.run_reg.ensures
