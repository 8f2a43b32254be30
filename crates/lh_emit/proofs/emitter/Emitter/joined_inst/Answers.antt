use Rattle.std.proofs.Common.{◌≡◌, ◌∙◌, refl}
use Rattle.lh_emit.proofs.GivenLines.{have-made, gives-joined, inst-cause, inst-no-memory, joined-not}
use Rattle.lh_term.proofs.Swaps.{in_grown}
use Rattle.lh_emit.proofs.emitter.Emitter.joined_inst.Goals as goal

pub returns-in_err-of-clause-given : goal.returns-in_err-of-clause-given
returns-in_err-of-clause-given c =
    inst-cause c.args.terms.now c.args.origin.now c.args.self.now c.args.t c.made_of.new.terms c.args.self.now c.from_residual.result c.in_err-of.field-0.0 c.from_residual.ensures.1
    (joined-not c.args.terms.now c.args.origin.now c.args.self.now c.args.t c.in_err-of.field-0.0 c.in_err-of.ensures.cause)

pub operands_on-requires-clause-is_in : goal.operands_on-requires-clause-is_in
operands_on-requires-clause-is_in c = in_grown c.args.terms.now c.made_of.new.terms c.made_of.ensures.kept c.args.t c.requires.can.is.is_in

pub operands_on-requires-clause-within : goal.operands_on-requires-clause-within
operands_on-requires-clause-within c = c.in_ok-of.ensures.made.within

pub operands_on-requires-clause-have : goal.operands_on-requires-clause-have
operands_on-requires-clause-have c =
    have-made c.args.terms.now c.args.origin.now c.args.self.now c.args.t c.made_of.new.terms c.in_ok-of.of c.requires.can c.made_of.ensures.kept c.are_apart.ensures c.in_ok-of.ensures.made

pub returns-in_err-args-clause-given : goal.returns-in_err-args-clause-given
returns-in_err-args-clause-given c =
    inst-no-memory c.args.terms.now c.args.origin.now c.args.self.now c.args.t c.made_of.new.terms c.args.self.now c.from_residual-in_err-args.result c.from_residual-in_err-args.ensures.1

pub returns-clause-given : goal.returns-clause-given
returns-clause-given c =
    gives-joined c.args.terms.now c.args.origin.now c.args.self.now c.args.t c.args.op c.made_of.new.terms c.in_ok-of.of c.in_ok-args.ensures.given _ c.from_list-args.result c.requires.form
    c.requires.can.is.is_in
    c.made_of.ensures.kept c.are_apart.ensures c.in_ok-of.ensures.made c.in_ok-args.ensures.values refl
    (c.from_list-args.ensures ∙ c.in_ok-args.ensures.are)
