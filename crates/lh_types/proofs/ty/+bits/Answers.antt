use Rattle.std.proofs.Common.{arith}
use Rattle.lh_types.proofs.Rows.{part-node_count, AreData-split}
use Rattle.lh_types.proofs.ty.+bits.Goals as goal

pub bits_of_fields-bits-sum-requires : goal.bits_of_fields-bits-sum-requires
bits_of_fields-bits-sum-requires t c =
    let w = part-node_count _ _ _ _ c.loop-field.invariant.whole c.loop-field-test.true c.field-item.is in
    let d = AreData-split _ _ _ c.loop-field.invariant.data_left c.loop-field-test.true c.field-item.is in
    (omega (arith, w), d.0)
