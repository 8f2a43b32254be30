use Rattle.lh_types.specs.ValueOf.{datum_of}
use Rattle.lh_eval.specs.HeldOf.{maybe_held}
use Rattle.lh_elab_plan.proofs.StaticSteps.{args-in, pure-fits, const-done, pure-done}
use Rattle.lh_elab_plan.proofs.statics.Statics.run_inst.Goals as goal

pub operate-requires-clause-fit : goal.operate-requires-clause-fit
operate-requires-clause-fit c = pure-fits c.args.m.now c.args.unit.0 c.requires.arena c.requires.unit c.args.self.now c.requires.fit c.args.name c.args.inst.now c.in-Pure.op c.in-Pure.args
    c.as_slice-operands.result.now c.in-Pure.is c.as_slice-operands.ensures c.requires.sound c.requires.placed

pub base_of-base-requires-clause-args : goal.base_of-base-requires-clause-args
base_of-base-requires-clause-args c = args-in c.args.m.now c.args.unit.0 c.requires.arena c.requires.unit c.args.self.now c.requires.fit c.args.inst.now c.in-Pure.op c.in-Pure.args
    c.as_slice-operands.result.now c.in-Pure.is c.as_slice-operands.ensures c.requires.placed

pub returns-in_ok-value-in-Const-clause-follows : goal.returns-in_ok-value-in-Const-clause-follows
returns-in_ok-value-in-Const-clause-follows c = λ args sigs e f.
    const-done c.args.m.now c.args.unit.0 c.requires.arena c.requires.unit c.args.self.now args sigs e f c.give.new.self c.args.name c.requires.name c.args.inst.now c.in-Const.value
    (datum_of c.in_ok-value-in-Const.value) c.in-Const.is c.give.ensures.by c.in_ok-value-in-Const.ensures

pub returns-in_ok-held-in-Pure-clause-follows : goal.returns-in_ok-held-in-Pure-clause-follows
returns-in_ok-held-in-Pure-clause-follows c = λ args sigs e f.
    pure-done c.args.m.now c.args.unit.0 c.requires.arena c.requires.unit c.args.self.now args sigs e f c.give-in-Pure.new.self c.args.name c.requires.name c.args.inst.now c.requires.fit
    c.in-Pure.op c.in-Pure.args c.as_slice-operands.result.now c.base_of-base.result (maybe_held c.in_ok-held-in-Pure.held) c.in-Pure.is c.as_slice-operands.ensures c.requires.placed
    c.give-in-Pure.ensures.by c.base_of-base.ensures c.in_ok-held-in-Pure.ensures
