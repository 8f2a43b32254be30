use Rattle.std.proofs.Common.{◌+◌, map, drop, Some, ap, sym, ◌∙◌}
use Rattle.std.specs.Option.{option_copied}
use Rattle.lh_unit.specs.Naming.{operand_text}
use Rattle.lh_unit.specs.Typing.{with_type, operand_types}
use Rattle.lh_verify_values.specs.Rows.{rows_joined}
use Rattle.lh_verify_values.proofs.MadeTypes.{joined-more, joined-none, joined-row, written-none, written-some, written-end}
use Rattle.lh_verify_values.proofs.results.put_written.Goals as goal

pub returns-in-None : goal.returns-in-None
returns-in-None c = λ f.
    sym (c.loop-operand.invariant f)
    ∙ ap (rows_joined c.loop-operand.list) (written-none f c.args.args.now c.loop-operand.operand-index c.operand-item.result c.loop-operand-test.true c.operand-item.is (sym c.get.ensures ∙ ap option_copied c.in-None.is))
    ∙ joined-none c.loop-operand.list

pub loop-operand-preserved : goal.loop-operand-preserved
loop-operand-preserved c = λ f.
    let rest = operand_types (map (operand_text f) (drop (c.loop-operand.operand-index + 1) c.args.args.now)) in
    ap (λ l. rows_joined l rest) c.in_ok-push-in-Some.ensures.ok
    ∙ joined-more c.loop-operand.list c.in_ok-copy-in-Some.field-0 rest
    ∙ ap (λ t. rows_joined c.loop-operand.list (with_type (Some t) rest)) c.in_ok-copy-in-Some.ensures
    ∙ ap (rows_joined c.loop-operand.list) (sym (written-some f c.args.args.now c.loop-operand.operand-index c.operand-item.result c.in-Some.ty.now c.loop-operand-test.true c.operand-item.is (sym c.get.ensures ∙ ap option_copied c.in-Some.is)))
    ∙ c.loop-operand.invariant f

pub returns : goal.returns
returns c = λ f.
    sym (c.loop-operand.invariant f)
    ∙ ap (rows_joined c.loop-operand.list) (written-end f c.args.args.now c.loop-operand.operand-index c.loop-operand-test.false)
    ∙ joined-row c.loop-operand.list
