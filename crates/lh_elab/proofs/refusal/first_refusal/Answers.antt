use Rattle.std.proofs.Common.{min, ap, sym, ◌∙◌}
use Rattle.std.proofs.lemmas.Result.{err_from_is_err_and}
use Rattle.lh_unit.specs.Named.{is_function}
use Rattle.lh_unit.specs.Naming.{kind_text}
use Rattle.lh_elab.specs.Graph.{max_counted}
use Rattle.lh_elab.specs.Refusals.{arg_bits_of, limited}
use Rattle.lh_elab.proofs.Placed.{limit-within}
use Rattle.lh_elab.proofs.RefusalLaws.{refuses-function, Refuses-measured, Refuses-limited}
use Rattle.lh_elab.proofs.refusal.first_refusal.Goals as goal

pub returns-then-is_function-clause-refuses : goal.returns-then-is_function-clause-refuses
returns-then-is_function-clause-refuses c = refuses-function c.args.m.now c.args.top.0
    (sym c.if-is_function.true ∙ c.is_function.ensures ∙ ap (λ k. is_function (kind_text k)) c.kind.ensures.kind)

pub returns-in_err-measure-clause-refuses : goal.returns-in_err-measure-clause-refuses
returns-in_err-measure-clause-refuses c =
    let p = err_from_is_err_and c.from_residual.result c.from_residual.ensures.1 in
    rw (p.1, p.2)
    (Refuses-measured c.args.m.now c.args.top.0 c.in_err-measure.field-0.0 c.kind.ensures.sound c.requires.unit
    (sym c.if-is_function.false ∙ c.is_function.ensures ∙ ap (λ k. is_function (kind_text k)) c.kind.ensures.kind) c.in_err-measure.ensures.measure)

pub returns-clause-refuses : goal.returns-clause-refuses
returns-clause-refuses c =
    Refuses-limited c.args.m.now c.args.top.0 c.in_ok-measure.measure c.limits.result c.kind.ensures.sound c.requires.unit
    (sym c.if-is_function.false ∙ c.is_function.ensures ∙ ap (λ k. is_function (kind_text k)) c.kind.ensures.kind) c.in_ok-measure.ensures.measure
    (c.limits.ensures ∙ ap (limited c.in_ok-measure.measure) (c.arg_bits.ensures ∙ ap (λ xs. min (arg_bits_of xs) max_counted) c.args-2.ensures.args))

pub returns-clause-placed : goal.returns-clause-placed
returns-clause-placed c = limit-within c.args.m.now c.in_ok-measure.measure c.arg_bits.result c.limits.result c.limits.ensures
