use Rattle.std.proofs.Common.{◌<◌, length, map, Some, List, IfOk, if◌then◌else◌, refl, sym, subst}
use Rattle.lh_unit.specs.Activation as act
use Rattle.lh_unit.specs.Activation.{executes, gives, tells, asserted, opens, called, ends_at, waiting}
use Rattle.lh_unit.specs.Arena.{InstPlaced, contents, naming, sizes, unit_name_at, unit_text_at}
use Rattle.lh_unit.specs.Effects.{operated}
use Rattle.lh_unit.specs.Held.{data_at, parts_at}
use Rattle.lh_unit_names.specs.UnitNames.{is_assert}
use Rattle.lh_unit.specs.Naming.{inst_text, operand_text, value_text, maybe_text}
use Rattle.lh_unit.specs.Within.{Each, OperandWithin}
use Rattle.lh_unit.specs.declared.inst.Inst.{Inst}
use Rattle.lh_unit.specs.declared.inst.Inst.TheVariants as inst
use Rattle.lh_unit.specs.declared.inst.Typed.{Typed}
use Rattle.lh_unit.specs.declared.inst.ValueId.{ValueId}
use Rattle.lh_exec.specs.declared.machine.Flow.TheVariants as flow
use Rattle.lh_exec.specs.Sound.{LineRight}
use Rattle.lh_exec.specs.Standing.{Does, InstLeads, scene_of}
use Rattle.lh_exec.proofs.Operands.{arm, in-slots, maybe-slots, all-slots, values-slots, ret-slots, pure-has, prb-has, drv-has, call-blocks, call-leads, br-stands, zero-stands, one-stands, ret-leads}
use Rattle.lh_exec.proofs.machine.Machine.execute.Goals as goal

pub returns-in-Const : goal.returns-in-Const
returns-in-Const c =
    let m = c.args.m.now in
    let f = naming m c.args.self.now.frame.unit.0 in
    arm c.run_const.result m c.args.self.now c.run_const.new.self (scene_of m c.args.now.now c.args.at) f (maybe_text f c.args.name) c.args.inst.now (inst.Const c.in-Const.value) c.in-Const.is
    (c.run_const.ensures m)

pub run_pure-requires-clause-unit : goal.run_pure-requires-clause-unit
run_pure-requires-clause-unit c = c.requires.fit.is.frame.within

pub run_pure-requires-clause-args : goal.run_pure-requires-clause-args
run_pure-requires-clause-args c = subst (Each (OperandWithin (sizes c.args.m.now c.args.self.now.frame.unit.0))) (sym c.as_slice.ensures)
    (subst (InstPlaced c.args.m.now c.args.self.now.frame.unit.0) c.in-Pure.is c.requires.placed)

pub run_pure-requires-clause-slots : goal.run_pure-requires-clause-slots
run_pure-requires-clause-slots c = c.requires.fit.is.frame.held.long

pub run_pure-requires-clause-fit : goal.run_pure-requires-clause-fit
run_pure-requires-clause-fit c = pure-has c.args.m.now (length c.args.now.now) c.args.self.now c.requires.fit c.requires.few c.args.name c.args.inst.now c.in-Pure.op c.in-Pure.args
    c.as_slice.result.now c.in-Pure.is c.as_slice.ensures c.requires.right c.requires.placed

pub returns-in-Pure : goal.returns-in-Pure
returns-in-Pure c =
    let m = c.args.m.now in
    let f = naming m c.args.self.now.frame.unit.0 in
    arm c.run_pure.result m c.args.self.now c.run_pure.new.self (scene_of m c.args.now.now c.args.at) f (maybe_text f c.args.name) c.args.inst.now (inst.Pure c.in-Pure.op c.in-Pure.args) c.in-Pure.is
    (subst (λ (l : List Typed). Does c.run_pure.result m c.args.self.now c.run_pure.new.self
    (λ p. gives p (maybe_text f c.args.name) (operated p.control.unit p.control.held c.in-Pure.op (map (operand_text f) l)))) c.as_slice.ensures c.run_pure.ensures)

pub run_var-requires-clause-within : goal.run_var-requires-clause-within
run_var-requires-clause-within c = in-slots c.args.m.now (length c.args.now.now) c.args.self.now c.requires.fit c.in-Var.initial.value
    (subst (InstPlaced c.args.m.now c.args.self.now.frame.unit.0) c.in-Var.is c.requires.placed)

pub returns-in-Var : goal.returns-in-Var
returns-in-Var c =
    let m = c.args.m.now in
    let f = naming m c.args.self.now.frame.unit.0 in
    arm c.run_var.result m c.args.self.now c.run_var.new.self (scene_of m c.args.now.now c.args.at) f (maybe_text f c.args.name) c.args.inst.now (inst.Var c.in-Var.initial) c.in-Var.is
    (c.run_var.ensures m)

pub run_ld-requires-clause-within : goal.run_ld-requires-clause-within
run_ld-requires-clause-within c = in-slots c.args.m.now (length c.args.now.now) c.args.self.now c.requires.fit c.in-Ld.pointer.value
    (subst (InstPlaced c.args.m.now c.args.self.now.frame.unit.0) c.in-Ld.is c.requires.placed)

pub returns-in-Ld : goal.returns-in-Ld
returns-in-Ld c =
    let m = c.args.m.now in
    let f = naming m c.args.self.now.frame.unit.0 in
    arm c.run_ld.result m c.args.self.now c.run_ld.new.self (scene_of m c.args.now.now c.args.at) f (maybe_text f c.args.name) c.args.inst.now (inst.Ld c.in-Ld.pointer) c.in-Ld.is (c.run_ld.ensures m)

pub run_st-requires-clause-within : goal.run_st-requires-clause-within
run_st-requires-clause-within c = in-slots c.args.m.now (length c.args.now.now) c.args.self.now c.requires.fit c.in-St.to.value
    (subst (InstPlaced c.args.m.now c.args.self.now.frame.unit.0) c.in-St.is c.requires.placed).0

pub run_st-requires-clause-value_within : goal.run_st-requires-clause-value_within
run_st-requires-clause-value_within c = in-slots c.args.m.now (length c.args.now.now) c.args.self.now c.requires.fit c.in-St.value
    (subst (InstPlaced c.args.m.now c.args.self.now.frame.unit.0) c.in-St.is c.requires.placed).1

pub returns-in-St : goal.returns-in-St
returns-in-St c =
    let m = c.args.m.now in
    let f = naming m c.args.self.now.frame.unit.0 in
    arm c.run_st.result m c.args.self.now c.run_st.new.self (scene_of m c.args.now.now c.args.at) f (maybe_text f c.args.name) c.args.inst.now (inst.St c.in-St.to c.in-St.value) c.in-St.is
    (c.run_st.ensures m)

pub run_prb-requires-clause-within : goal.run_prb-requires-clause-within
run_prb-requires-clause-within c = in-slots c.args.m.now (length c.args.now.now) c.args.self.now c.requires.fit c.in-Prb.signal.value
    (subst (InstPlaced c.args.m.now c.args.self.now.frame.unit.0) c.in-Prb.is c.requires.placed)

pub run_prb-requires-clause-fit : goal.run_prb-requires-clause-fit
run_prb-requires-clause-fit c = prb-has c.args.m.now (length c.args.now.now) c.args.self.now c.requires.fit c.args.now.now refl c.args.name c.args.inst.now c.in-Prb.signal c.in-Prb.is c.requires.right
    c.requires.placed

pub returns-in-Prb : goal.returns-in-Prb
returns-in-Prb c =
    let m = c.args.m.now in
    let f = naming m c.args.self.now.frame.unit.0 in
    arm c.run_prb.result m c.args.self.now c.run_prb.new.self (scene_of m c.args.now.now c.args.at) f (maybe_text f c.args.name) c.args.inst.now (inst.Prb c.in-Prb.signal) c.in-Prb.is
    (c.run_prb.ensures m)

pub run_drv-requires-clause-to_within : goal.run_drv-requires-clause-to_within
run_drv-requires-clause-to_within c = in-slots c.args.m.now (length c.args.now.now) c.args.self.now c.requires.fit c.in-Drv.to.value
    (subst (InstPlaced c.args.m.now c.args.self.now.frame.unit.0) c.in-Drv.is c.requires.placed).0

pub run_drv-requires-clause-value_within : goal.run_drv-requires-clause-value_within
run_drv-requires-clause-value_within c = in-slots c.args.m.now (length c.args.now.now) c.args.self.now c.requires.fit c.in-Drv.value
    (subst (InstPlaced c.args.m.now c.args.self.now.frame.unit.0) c.in-Drv.is c.requires.placed).1

pub run_drv-requires-clause-after_within : goal.run_drv-requires-clause-after_within
run_drv-requires-clause-after_within c = in-slots c.args.m.now (length c.args.now.now) c.args.self.now c.requires.fit c.in-Drv.after
    (subst (InstPlaced c.args.m.now c.args.self.now.frame.unit.0) c.in-Drv.is c.requires.placed).2

pub run_drv-requires-clause-cond_within : goal.run_drv-requires-clause-cond_within
run_drv-requires-clause-cond_within c = maybe-slots c.args.m.now (length c.args.now.now) c.args.self.now c.requires.fit c.in-Drv.cond
    (subst (InstPlaced c.args.m.now c.args.self.now.frame.unit.0) c.in-Drv.is c.requires.placed).3

pub run_drv-requires-clause-fit : goal.run_drv-requires-clause-fit
run_drv-requires-clause-fit c = drv-has c.args.m.now (length c.args.now.now) c.args.self.now c.requires.fit c.requires.few c.args.name c.args.inst.now c.in-Drv.to c.in-Drv.value c.in-Drv.after
    c.in-Drv.cond c.in-Drv.is c.requires.right c.requires.placed

pub returns-in-Drv : goal.returns-in-Drv
returns-in-Drv c =
    let m = c.args.m.now in
    let f = naming m c.args.self.now.frame.unit.0 in
    arm c.run_drv.result m c.args.self.now c.run_drv.new.self (scene_of m c.args.now.now c.args.at) f (maybe_text f c.args.name) c.args.inst.now
    (inst.Drv c.in-Drv.to c.in-Drv.value c.in-Drv.after c.in-Drv.cond) c.in-Drv.is (c.run_drv.ensures m)

pub run_call-requires-clause-unit : goal.run_call-requires-clause-unit
run_call-requires-clause-unit c = (subst (InstPlaced c.args.m.now c.args.self.now.frame.unit.0) c.in-Call.is c.requires.placed).0

pub run_call-requires-clause-blocks : goal.run_call-requires-clause-blocks
run_call-requires-clause-blocks c = call-blocks c.args.m.now (length c.args.now.now) c.args.self.now c.requires.fit c.requires.formed c.args.name c.args.inst.now c.in-Call.unit c.in-Call.result
    c.in-Call.args c.in-Call.is c.requires.right c.requires.placed

pub run_call-requires-clause-args : goal.run_call-requires-clause-args
run_call-requires-clause-args c =
    subst (Each (λ (o : Typed). o.value.0 < length c.args.self.now.frame.slots)) (sym c.as_slice-in-Call.ensures)
    (all-slots c.args.m.now (length c.args.now.now) c.args.self.now c.requires.fit c.in-Call.args (subst (InstPlaced c.args.m.now c.args.self.now.frame.unit.0) c.in-Call.is c.requires.placed).1)

pub returns-in-Call : goal.returns-in-Call
returns-in-Call c =
    let m = c.args.m.now in
    let f = naming m c.args.self.now.frame.unit.0 in
    let placed = subst (InstPlaced m c.args.self.now.frame.unit.0) c.in-Call.is c.requires.placed in
    arm c.run_call.result m c.args.self.now c.run_call.new.self (scene_of m c.args.now.now c.args.at) f (maybe_text f c.args.name) c.args.inst.now
    (inst.Call c.in-Call.unit c.in-Call.result c.in-Call.args) c.in-Call.is
    (call-leads m (length c.args.now.now) c.args.self.now c.requires.fit c.requires.formed c.run_call.result c.run_call.new.self c.args.now.now c.args.at c.args.name c.in-Call.unit c.in-Call.result
    c.in-Call.args placed.0
    (subst (λ (i : Inst). LineRight (contents m) (unit_text_at m c.args.self.now.frame.unit.0) (record { result = maybe_text f c.args.name; inst = inst_text f i })) c.in-Call.is c.requires.right)
    (subst (λ (l : List Typed). Does c.run_call.result m c.args.self.now c.run_call.new.self
    (λ p. if is_assert (unit_name_at m c.in-Call.unit.0) then tells p (asserted p.control.held (map (operand_text f) l)) else opens p (maybe_text f c.args.name)
    (called (Some (unit_text_at m c.in-Call.unit.0)) (data_at p.control.held (map (operand_text f) l))))) c.as_slice-in-Call.ensures c.run_call.ensures))

pub returns-in-Phi : goal.returns-in-Phi
returns-in-Phi c = λ p st.
    let m = c.args.m.now in
    let f = naming m c.args.self.now.frame.unit.0 in
    subst (λ (i : Inst). InstLeads m c.args.self.now flow.Goes p.control.unit (executes (scene_of m c.args.now.now c.args.at) (inst_text f i) (maybe_text f c.args.name) p)) (sym c.in-Phi.is) st

pub enter-requires-clause-arena : goal.enter-requires-clause-arena
enter-requires-clause-arena c = c.requires.fit.is.arena

pub enter-requires-clause-unit : goal.enter-requires-clause-unit
enter-requires-clause-unit c = c.requires.fit.is.frame.within

pub enter-requires-clause-to : goal.enter-requires-clause-to
enter-requires-clause-to c = subst (InstPlaced c.args.m.now c.args.self.now.frame.unit.0) c.in-Br.is c.requires.placed

pub enter-requires-clause-stands : goal.enter-requires-clause-stands
enter-requires-clause-stands c = br-stands c.args.m.now (length c.args.now.now) c.args.self.now c.requires.fit c.requires.formed c.args.name c.args.inst.now c.in-Br.to c.in-Br.is c.requires.right
    c.requires.placed

pub enter-requires-clause-slots : goal.enter-requires-clause-slots
enter-requires-clause-slots c = c.requires.fit.is.frame.held.long

pub returns-in-Br : goal.returns-in-Br
returns-in-Br c =
    let m = c.args.m.now in
    let f = naming m c.args.self.now.frame.unit.0 in
    arm c.enter.result m c.args.self.now c.enter.new.self (scene_of m c.args.now.now c.args.at) f (maybe_text f c.args.name) c.args.inst.now (inst.Br c.in-Br.to) c.in-Br.is c.enter.ensures

pub run_branch-requires-clause-arena : goal.run_branch-requires-clause-arena
run_branch-requires-clause-arena c = c.requires.fit.is.arena

pub run_branch-requires-clause-unit : goal.run_branch-requires-clause-unit
run_branch-requires-clause-unit c = c.requires.fit.is.frame.within

pub run_branch-requires-clause-cond : goal.run_branch-requires-clause-cond
run_branch-requires-clause-cond c = in-slots c.args.m.now (length c.args.now.now) c.args.self.now c.requires.fit c.in-Branch.cond
    (subst (InstPlaced c.args.m.now c.args.self.now.frame.unit.0) c.in-Branch.is c.requires.placed).0

pub run_branch-requires-clause-zero : goal.run_branch-requires-clause-zero
run_branch-requires-clause-zero c = (subst (InstPlaced c.args.m.now c.args.self.now.frame.unit.0) c.in-Branch.is c.requires.placed).1

pub run_branch-requires-clause-one : goal.run_branch-requires-clause-one
run_branch-requires-clause-one c = (subst (InstPlaced c.args.m.now c.args.self.now.frame.unit.0) c.in-Branch.is c.requires.placed).2

pub run_branch-requires-clause-zero_stands : goal.run_branch-requires-clause-zero_stands
run_branch-requires-clause-zero_stands c = zero-stands c.args.m.now (length c.args.now.now) c.args.self.now c.requires.fit c.requires.formed c.args.name c.args.inst.now c.in-Branch.cond
    c.in-Branch.zero c.in-Branch.one c.in-Branch.is c.requires.right c.requires.placed

pub run_branch-requires-clause-one_stands : goal.run_branch-requires-clause-one_stands
run_branch-requires-clause-one_stands c = one-stands c.args.m.now (length c.args.now.now) c.args.self.now c.requires.fit c.requires.formed c.args.name c.args.inst.now c.in-Branch.cond c.in-Branch.zero
    c.in-Branch.one c.in-Branch.is c.requires.right c.requires.placed

pub run_branch-requires-clause-slots : goal.run_branch-requires-clause-slots
run_branch-requires-clause-slots c = c.requires.fit.is.frame.held.long

pub returns-in-Branch : goal.returns-in-Branch
returns-in-Branch c =
    let m = c.args.m.now in
    let f = naming m c.args.self.now.frame.unit.0 in
    arm c.run_branch.result m c.args.self.now c.run_branch.new.self (scene_of m c.args.now.now c.args.at) f (maybe_text f c.args.name) c.args.inst.now
    (inst.Branch c.in-Branch.cond c.in-Branch.zero c.in-Branch.one) c.in-Branch.is c.run_branch.ensures

pub run_wait-requires-clause-after : goal.run_wait-requires-clause-after
run_wait-requires-clause-after c = maybe-slots c.args.m.now (length c.args.now.now) c.args.self.now c.requires.fit c.in-Wait.after
    (subst (InstPlaced c.args.m.now c.args.self.now.frame.unit.0) c.in-Wait.is c.requires.placed).1

pub run_wait-requires-clause-signals : goal.run_wait-requires-clause-signals
run_wait-requires-clause-signals c =
    subst (Each (λ (v : ValueId). v.0 < length c.args.self.now.frame.slots)) (sym c.as_slice-in-Wait.ensures)
    (values-slots c.args.m.now (length c.args.now.now) c.args.self.now c.requires.fit c.in-Wait.signals (subst (InstPlaced c.args.m.now c.args.self.now.frame.unit.0) c.in-Wait.is c.requires.placed).2)

pub returns-in-Wait : goal.returns-in-Wait
returns-in-Wait c =
    let m = c.args.m.now in
    let f = naming m c.args.self.now.frame.unit.0 in
    arm c.run_wait.result m c.args.self.now c.args.self.now (scene_of m c.args.now.now c.args.at) f (maybe_text f c.args.name) c.args.inst.now
    (inst.Wait c.in-Wait.to c.in-Wait.after c.in-Wait.signals) c.in-Wait.is
    (subst (λ (l : List ValueId). Does c.run_wait.result m c.args.self.now c.args.self.now
    (λ p. ends_at p p.callers (waiting p.control.block (f.label_name c.in-Wait.to.0) (parts_at p.control.held (map (value_text f) l))
    (act.wake_at c.args.at p.control.held (maybe_text f c.in-Wait.after))))) c.as_slice-in-Wait.ensures
    (c.run_wait.ensures m (subst (InstPlaced m c.args.self.now.frame.unit.0) c.in-Wait.is c.requires.placed).0))

pub returns-in-Halt : goal.returns-in-Halt
returns-in-Halt c = λ p st.
    let m = c.args.m.now in
    let f = naming m c.args.self.now.frame.unit.0 in
    subst (λ (i : Inst). InstLeads m c.args.self.now c.run_halt.result p.control.unit (executes (scene_of m c.args.now.now c.args.at) (inst_text f i) (maybe_text f c.args.name) p)) (sym c.in-Halt.is)
    (c.run_halt.ensures m p st)

pub run_ret-requires-clause-within : goal.run_ret-requires-clause-within
run_ret-requires-clause-within c = ret-slots c.args.m.now (length c.args.now.now) c.args.self.now c.requires.fit c.in-Ret.operand
    (subst (InstPlaced c.args.m.now c.args.self.now.frame.unit.0) c.in-Ret.is c.requires.placed)

pub run_ret-requires-clause-point : goal.run_ret-requires-clause-point
run_ret-requires-clause-point c = record { arena = c.args.m.now; point = c.requires.fit.point; is = c.requires.fit.is }

pub returns-in-Ret : goal.returns-in-Ret
returns-in-Ret c = λ p st.
    let m = c.args.m.now in
    let f = naming m c.args.self.now.frame.unit.0 in
    subst (λ (i : Inst). IfOk c.run_ret.result (λ fl. InstLeads m c.run_ret.new.self fl p.control.unit (executes (scene_of m c.args.now.now c.args.at) (inst_text f i) (maybe_text f c.args.name) p)))
    (sym c.in-Ret.is)
    (ret-leads m c.args.self.now c.run_ret.new.self c.run_ret.result (scene_of m c.args.now.now c.args.at) c.in-Ret.operand (maybe_text f c.args.name) (c.run_ret.ensures m) p st)
