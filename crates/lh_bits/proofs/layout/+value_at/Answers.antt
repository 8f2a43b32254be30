use Rattle.std.proofs.Common.{◌+◌, ◌*◌, drop, arith, ap, ◌∙◌}
use Rattle.lh_types.specs.Bits.{value_from_bits}
use Rattle.lh_types.proofs.Rows.{part-node_count, AreData-split}
use Rattle.lh_bits.proofs.LayoutLemmas.{ElementsAt-next, ElementsAt-end, FieldsAt-next, FieldsAt-end, FieldsAt-inside}
use Rattle.lh_bits.proofs.layout.+value_at.Goals as goal

pub elements_at-loop-i-preserved : goal.elements_at-loop-i-preserved
elements_at-loop-i-preserved t c = ElementsAt-next _ _ _ _ _ _ _ _ c.requires.data c.requires.within c.loop-i-test.true c.loop-i.invariant
    (c.in_ok-element.ensures ∙ ap (λ m. value_from_bits c.args.of.now (drop (c.args.lo + c.loop-i.i * m) c.args.b.now)) c.bits-size.ensures) c.in_ok-push.ensures.ok

pub elements_at-returns : goal.elements_at-returns
elements_at-returns t c = ElementsAt-end _ _ _ _ _ _ c.loop-i.invariant c.loop-i-test.false

pub fields_at-value_at-requires : goal.fields_at-value_at-requires
fields_at-value_at-requires t c =
    let w = part-node_count _ _ _ _ c.loop-field.invariant.whole c.loop-field-test.true c.field-item.is in
    let d = AreData-split _ _ _ c.loop-field.invariant.data_left c.loop-field-test.true c.field-item.is in
    (omega (arith, w), (c.requires.short, (d.0, FieldsAt-inside _ _ _ _ _ _ _ _ c.loop-field.invariant c.loop-field-test.true c.field-item.is)))

pub fields_at-loop-field-preserved : goal.fields_at-loop-field-preserved
fields_at-loop-field-preserved t c = FieldsAt-next _ _ _ _ _ _ _ _ _ _ _ c.loop-field.invariant c.loop-field-test.true c.field-item.is c.in_ok-value.ensures c.in_ok-push.ensures.ok
    (ap (λ m. c.loop-field.at + m) c.bits-size.ensures)

pub fields_at-returns : goal.fields_at-returns
fields_at-returns t c = FieldsAt-end _ _ _ _ _ _ _ c.loop-field.invariant c.loop-field-test.false
