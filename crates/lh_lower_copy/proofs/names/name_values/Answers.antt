use Rattle.std.proofs.Common.{Ok, subst, arith}
use Rattle.lh_unit.specs.Arena.{value_count, value_name_at}
use Rattle.lh_unit.specs.Builders.{FindsValue}
use Rattle.lh_lower_copy.proofs.NamesById.{values-start, values-next, values-differ}
use Rattle.lh_lower_copy.proofs.names.name_values.Goals as goal

pub loop-value-preserved : goal.loop-value-preserved
loop-value-preserved c =
    let a = c.args.from.now in let u = c.args.unit in let k = c.loop-value.value in
    let old = c.loop-value.m in let new = c.value_named.new.self in let v = c.in_ok-value_named.field-0 in let f = value_name_at a u.0 in
    values-next c.args.m.now old new u (value_count a u.0) k f v (values-differ a u.0 c.values-value-end.ensures.sound c.requires.there)
    (omega (arith, c.loop-value-test.true, c.values-value-end.ensures.count)) c.loop-value.invariant
    (subst (λ n. FindsValue (Ok v) old new u n) c.value_name.ensures.name c.in_ok-value_named.ensures)

pub loop-value-init : goal.loop-value-init
loop-value-init c = values-start c.args.m.now c.args.unit.0 (value_name_at c.args.from.now c.args.unit.0) c.requires.none
