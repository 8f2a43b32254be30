use Rattle.std.proofs.Common.{◌≡◌}
use Rattle.lh_emit.proofs.GivenLines.{can-give, makes-inst, makes-not, make-cause, make-no-memory}
use Rattle.lh_emit.proofs.StepLaws.{gives-fault}
use Rattle.lh_emit.proofs.emitter.Emitter.make.Goals as goal

pub give-requires : goal.give-requires
give-requires c =
    let k = can-give c.args.terms.now c.args.origin.now c.args.self.now c.args.t c.inst_of.new.terms c.inst_of.new.self c.in_ok-inst.inst c.requires c.in_ok-inst.ensures.given in
    record { room = k.0; named = k.1 }

pub returns-in_err-inst-clause-made : goal.returns-in_err-inst-clause-made
returns-in_err-inst-clause-made c =
    make-cause c.args.terms.now c.args.origin.now c.args.self.now c.args.t c.inst_of.new.terms c.inst_of.new.self c.from_residual.result c.in_err-inst.field-0.0 c.from_residual.ensures.1
    c.in_err-inst.ensures.given

pub returns-in_err-value-clause-made : goal.returns-in_err-value-clause-made
returns-in_err-value-clause-made c =
    make-cause c.args.terms.now c.args.origin.now c.args.self.now c.args.t c.inst_of.new.terms record { lines = c.give.new.self; values = c.inst_of.new.self.values; parts = c.inst_of.new.self.parts }
    c.from_residual-in_err-value.result
    c.in_err-value.field-0.0 c.from_residual-in_err-value.ensures.1
    (makes-not c.args.terms.now c.args.origin.now c.args.self.now c.args.t c.inst_of.new.terms c.inst_of.new.self c.in_ok-inst.inst c.in_err-value.field-0.0 c.inst_of.ensures.kept c.are_apart.ensures
    c.in_ok-inst.ensures.given
    (gives-fault c.inst_of.new.self.lines c.give.new.self c.in_ok-inst.inst c.in_err-value.field-0.0 c.in_err-value.ensures))

pub returns-clause-made : goal.returns-clause-made
returns-clause-made c =
    makes-inst c.args.terms.now c.args.origin.now c.args.self.now c.args.t c.inst_of.new.terms c.inst_of.new.self c.in_ok-inst.inst c.give.new.self c.in_ok-value.value c.keep.new.self
    c.inst_of.ensures.kept c.are_apart.ensures
    c.in_ok-inst.ensures.given c.in_ok-value.ensures c.in_ok-keep.ensures

pub returns-in_err-keep-clause-made : goal.returns-in_err-keep-clause-made
returns-in_err-keep-clause-made c =
    make-no-memory c.args.terms.now c.args.origin.now c.args.self.now c.args.t c.inst_of.new.terms record { lines = c.give.new.self; values = c.keep.new.self; parts = c.inst_of.new.self.parts }
    c.from_residual-in_err-keep.result c.from_residual-in_err-keep.ensures.1
