use Rattle.std.proofs.Common.{arith}
use Rattle.lh_types.proofs.Rows.{part-node_count, AreData-split}
use Rattle.lh_types.proofs.ty.+depth.Goals as goal

pub depth_of_fields-depth-requires : goal.depth_of_fields-depth-requires
depth_of_fields-depth-requires t c =
    let w = part-node_count _ _ _ _ c.loop-field.invariant.whole c.loop-field-test.true c.field-item.is in
    let d = AreData-split _ _ _ c.loop-field.invariant.data_left c.loop-field-test.true c.field-item.is in
    (omega (arith, w), d.0)
