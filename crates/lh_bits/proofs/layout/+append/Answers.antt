use Rattle.std.proofs.Common.{arith}
use Rattle.lh_types.proofs.DatumRows.{part-datum_count}
use Rattle.lh_bits.proofs.LayoutLemmas.{AppendsAt-next, AppendsAt-room}
use Rattle.lh_bits.proofs.NumberBits.{length-number_bits}
use Rattle.lh_bits.proofs.layout.+append.Goals as goal

pub append_values-append_value-requires : goal.append_values-append_value-requires
append_values-append_value-requires t c =
    let w = part-datum_count _ _ _ _ c.loop-v.invariant.whole c.loop-v-test.true c.v-item.is in (
      omega (arith, w),
      AppendsAt-room c.args.to.now c.loop-v.to c.args.vs.now c.as_slice-v-items.result.now c.loop-v.v-index c.v-item.result c.loop-v.invariant c.loop-v-test.true c.v-item.is
          c.requires,
    )

pub append_values-loop-v-preserved : goal.append_values-loop-v-preserved
append_values-loop-v-preserved t c = AppendsAt-next _ _ _ _ _ _ _ c.loop-v.invariant c.loop-v-test.true c.v-item.is c.in_ok-append_value.ensures

pub append_value-push_int-requires : goal.append_value-push_int-requires
append_value-push_int-requires t c = let room = rw c.in-Int.is at c.requires in omega (arith, length-number_bits c.in-Int.width c.in-Int.bits, room)
