use Rattle.std.proofs.Common.{arith}
use Rattle.lh_types.proofs.DatumRows.{part-datum_count}
use Rattle.lh_wave.proofs.ValueWalks.{ValuesAt-next, ValuesAt-end}
use Rattle.lh_wave.proofs.value.+value.Goals as goal

pub put_values-put_value-requires : goal.put_values-put_value-requires
put_values-put_value-requires t c =
    let w = part-datum_count _ _ _ _ c.loop-i.invariant.whole c.loop-i-test.true c.v-item.is in
    (omega (arith, w), tt)

pub put_values-loop-i-preserved : goal.put_values-loop-i-preserved
put_values-loop-i-preserved t c =
    ValuesAt-next _ _ _ _ _ _ _ _ _ c.loop-i.invariant c.loop-i-test.true c.v-item.is c.comma_before.ensures c.put.ensures c.put_value.ensures

pub put_values-returns : goal.put_values-returns
put_values-returns t c = ValuesAt-end _ _ _ _ _ c.loop-i.invariant c.loop-i-test.false
