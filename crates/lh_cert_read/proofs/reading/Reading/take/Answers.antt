use Rattle.std.proofs.Common.{◌≡◌, ◌<◌, length, ap, sym, ◌∙◌, subst, arith}
use Rattle.lh_unit.specs.Arena.{InstPlaced, sizes, naming, value_count, inst_at}
use Rattle.lh_unit.specs.Table.{ResultWithin}
use Rattle.lh_unit.specs.declared.inst.Inst.TheVariants as inst
use Rattle.lh_unit.specs.Naming.{inst_text}
use Rattle.lh_unit.specs.Within.{Each, OperandWithin, TriggerWithin}
use Rattle.lh_unit.specs.declared.inst.Inst.{Inst}
use Rattle.lh_unit.specs.declared.inst.Typed.{Typed}
use Rattle.lh_unit.proofs.ById.{result-within}
use Rattle.lh_unit.proofs.Within.{Each-more}
use Rattle.lh_cert_read.specs.Lines.{LineFits, TriggerIn}
use Rattle.lh_cert_read.proofs.Taking.{name-in, trigger-in, operands-fit, step-fits}
use Rattle.lh_cert_read.proofs.reading.Reading.take.Goals as goal

pub take_constant-requires-clause-name : goal.take_constant-requires-clause-name
take_constant-requires-clause-name c =
    let a = c.args.unit.module.now in
    let u = c.args.unit.unit.0 in
    name-in _ c.args.self.now.known.values.items c.result_of-name.result c.requires.can.is.known.long
    (subst (ResultWithin (value_count a u)) (sym c.result_of-name.ensures.value) (result-within a u c.inst-inst.ensures.sound c.args.unit.in_place c.args.inst.0))

pub take_operation-requires-clause-within : goal.take_operation-requires-clause-within
take_operation-requires-clause-within c =
    let a = c.args.unit.module.now in
    let u = c.args.unit.unit.0 in
    let long = c.requires.can.is.known.long in
    let placed : Each (OperandWithin (sizes a u)) c.in-Pure.args = subst (InstPlaced a u) c.in-Pure.is c.inst-inst.ensures.placed in
    let all : Each (λ (x : Typed). x.value.0 < length c.args.self.now.known.values.items) c.in-Pure.args =
    Each-more (OperandWithin (sizes a u)) (λ (x : Typed). x.value.0 < length c.args.self.now.known.values.items) c.in-Pure.args (λ x w. omega (arith, long, w)) placed in
    subst (Each (λ (x : Typed). x.value.0 < length c.args.self.now.known.values.items)) (sym c.as_slice.ensures) all

pub take_operation-requires-clause-name : goal.take_operation-requires-clause-name
take_operation-requires-clause-name c =
    let a = c.args.unit.module.now in
    let u = c.args.unit.unit.0 in
    name-in _ c.args.self.now.known.values.items c.result_of-name.result c.requires.can.is.known.long
    (subst (ResultWithin (value_count a u)) (sym c.result_of-name.ensures.value) (result-within a u c.inst-inst.ensures.sound c.args.unit.in_place c.args.inst.0))

pub take_operation-requires-clause-operands : goal.take_operation-requires-clause-operands
take_operation-requires-clause-operands c =
    let a = c.args.unit.module.now in
    let u = c.args.unit.unit.0 in
    let is : inst_at a u c.args.inst.0 ≡ inst.Pure c.in-Pure.op c.as_slice.result.now = sym c.inst-inst.ensures.inst ∙ c.in-Pure.is ∙ ap (inst.Pure c.in-Pure.op) (sym c.as_slice.ensures) in
    operands-fit a u c.args.terms.now c.args.self.now.known.values.items c.requires.can.text.known c.requires.can.is.known c.in-Pure.op c.as_slice.result.now
    (take_operation-requires-clause-within c) (subst (λ (i : Inst). LineFits c.requires.can.text.known (inst_text (naming a u) i)) is c.requires.can.fits)

pub take_operation-requires-clause-step : goal.take_operation-requires-clause-step
take_operation-requires-clause-step c =
    let a = c.args.unit.module.now in
    let u = c.args.unit.unit.0 in
    let is : inst_at a u c.args.inst.0 ≡ inst.Pure c.in-Pure.op c.as_slice.result.now = sym c.inst-inst.ensures.inst ∙ c.in-Pure.is ∙ ap (inst.Pure c.in-Pure.op) (sym c.as_slice.ensures) in
    step-fits a u c.args.terms.now c.args.self.now.known.values.items c.requires.can.text.known c.requires.can.is.known c.in-Pure.op c.as_slice.result.now
    (take_operation-requires-clause-within c) (subst (λ (i : Inst). LineFits c.requires.can.text.known (inst_text (naming a u) i)) is c.requires.can.fits)

pub take_probe-requires-clause-name : goal.take_probe-requires-clause-name
take_probe-requires-clause-name c =
    let a = c.args.unit.module.now in
    let u = c.args.unit.unit.0 in
    name-in _ c.args.self.now.known.values.items c.result_of-name.result c.requires.can.is.known.long
    (subst (ResultWithin (value_count a u)) (sym c.result_of-name.ensures.value) (result-within a u c.inst-inst.ensures.sound c.args.unit.in_place c.args.inst.0))

pub take_register-requires-clause-within : goal.take_register-requires-clause-within
take_register-requires-clause-within c =
    let a = c.args.unit.module.now in
    let u = c.args.unit.unit.0 in
    let values = c.args.self.now.known.values.items in
    let placed = subst (InstPlaced a u) c.in-Reg.is c.inst-inst.ensures.placed in
    subst (Each (TriggerIn values)) (sym c.as_slice-in-Reg.ensures)
    (Each-more (TriggerWithin (sizes a u)) (TriggerIn values) c.in-Reg.triggers (trigger-in a u values c.requires.can.is.known.long) placed.1)
