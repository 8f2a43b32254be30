use Rattle.std.proofs.Common.{arith}
use Rattle.lh_types.proofs.DatumRows.{part-datum_count}
use Rattle.lh_wave.proofs.WireLemmas.{BitsAt-start, BitsAt-next, BitsAt-end}
use Rattle.lh_wave.proofs.wire.+wire.Goals as goal

pub put_row_bits-put_value_bits-requires : goal.put_row_bits-put_value_bits-requires
put_row_bits-put_value_bits-requires t c =
    let w = part-datum_count _ _ _ _ c.loop-v.invariant.whole c.loop-v-test.true c.v-item.is in
    (omega (arith, w), tt)

pub put_row_bits-loop-v-init : goal.put_row_bits-loop-v-init
put_row_bits-loop-v-init t c = BitsAt-start _ _ _ c.as_slice-v-items.ensures

pub put_row_bits-loop-v-preserved : goal.put_row_bits-loop-v-preserved
put_row_bits-loop-v-preserved t c = BitsAt-next _ _ _ _ _ _ _ c.loop-v.invariant c.loop-v-test.true c.v-item.is c.put_value_bits.ensures

pub put_row_bits-returns : goal.put_row_bits-returns
put_row_bits-returns t c = BitsAt-end _ _ _ _ _ c.loop-v.invariant c.loop-v-test.false
