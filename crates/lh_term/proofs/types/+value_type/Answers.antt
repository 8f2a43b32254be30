use Rattle.std.proofs.Common.{rules, sym, ap, arith}
use Rattle.lh_types.specs.Types.{tuple_type}
use Rattle.lh_types.proofs.DatumRows.{part-datum_count}
use Rattle.lh_term.proofs.Values.{if_ok_eq, all_types, whole_array}
use Rattle.lh_term.proofs.types.+value_type.Goals as goal

pub tuple_type-value_type-requires : goal.tuple_type-value_type-requires
tuple_type-value_type-requires t c =
    let w = part-datum_count _ _ _ _ c.loop-v.invariant.whole c.loop-v-test.true c.v-item.is in
    (omega (arith, w), tt)

pub array_type-returns-in_ok-of-in-Some : goal.array_type-returns-in_ok-of-in-Some
array_type-returns-in_ok-of-in-Some t c =
    let e = whole_array _ _ _ _ c.as_slice-vs.ensures (sym c.in-Some.ensures.value) c.in_ok-of-in-Some.ensures in
    if_ok_eq c.array.result _ _ e (search rules)

pub tuple_type-returns : goal.tuple_type-returns
tuple_type-returns t c =
    let e = all_types _ _ _ _ c.loop-v.invariant.whole c.loop-v.invariant.done c.loop-v-test.false in
    if_ok_eq c.tuple.result _ _ (ap tuple_type e) (search rules)
