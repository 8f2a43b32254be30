use Rattle.std.proofs.Common.{ap, sym, ◌∙◌}
use Rattle.lh_term.specs.Tree.{constant}
use Rattle.lh_emit.proofs.GivenLines.{gives-scalar, inst-no-memory}
use Rattle.lh_emit.proofs.emitter.Emitter.scalar_inst.Goals as goal

pub returns : goal.returns
returns c = gives-scalar c.args.terms.now c.args.origin.now c.args.self.now c.args.t c.in_ok-new.field-0 (c.in_ok-value.ensures ∙ ap constant (sym c.in_ok-new.ensures)) c.requires.form

pub returns-in_err-value : goal.returns-in_err-value
returns-in_err-value c = inst-no-memory c.args.terms.now c.args.origin.now c.args.self.now c.args.t c.args.terms.now c.args.self.now c.from_residual.result c.from_residual.ensures.1

pub returns-in_err-new : goal.returns-in_err-new
returns-in_err-new c =
    inst-no-memory c.args.terms.now c.args.origin.now c.args.self.now c.args.t c.args.terms.now c.args.self.now c.from_residual-in_err-new.result c.from_residual-in_err-new.ensures.1
