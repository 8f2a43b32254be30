use Rattle.std.proofs.Common.{[], ◌∷◌, ◌++◌, arith, sym, ◌∙◌}
use Rattle.lh_lower.proofs.ArgNames.{arg-within, names-next, names-all}
use Rattle.lh_lower.proofs.outcome.names_of_args.Goals as goal

pub value_name-name-requires-clause-value : goal.value_name-name-requires-clause-value
value_name-name-requires-clause-value c = arg-within c.args.from.now c.args.unit.0 c.args-args.result.now c.loop-arg.arg-index c.arg-item.result c.args-args.ensures.sound c.requires
    c.args-args.ensures.args (omega arith) c.arg-item.is

pub returns-clause-names : goal.returns-clause-names
returns-clause-names c = c.loop-arg.invariant
    ∙ names-all c.args.from.now c.args.unit.0 c.args-args.result.now c.loop-arg.arg-index c.args-args.ensures.args (omega (arith, c.loop-arg.auto.arg-index-end, c.loop-arg-test.false))

pub loop-arg-preserved : goal.loop-arg-preserved
loop-arg-preserved c =
    let before = c.loop-arg.invariant in let name = c.in_ok-copy.ensures ∙ c.value_name-name.ensures.name in
    c.in_ok-push.ensures.ok ∙ (λ j. before j ++ name j ∷ [])
    ∙ sym (names-next c.args.from.now c.args.unit.0 c.args-args.result.now c.loop-arg.arg-index c.arg-item.result c.loop-arg-test.true c.arg-item.is)
