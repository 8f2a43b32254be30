use Rattle.std.proofs.Common.{arith}
use Rattle.lh_types.proofs.Limits.{bit_count-le}
use Rattle.lh_types.proofs.Rows.{AreData-split}
use Rattle.lh_types.proofs.ty.have_too_many_bits.Goals as goal

pub overflow_add-sum : goal.overflow_add-sum
overflow_add-sum c =
    let d = AreData-split _ _ _ c.loop-field.invariant.0.data_left c.loop-field-test.true c.field-item.is in
    omega (arith, bit_count-le _ d.0)
