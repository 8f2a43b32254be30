use Rattle.std.proofs.Common.{arith}
use Rattle.lh_types.proofs.Rows.{part-node_count}
use Rattle.lh_verify_values.proofs.numbers.+digest.Goals as goal

pub digest_of_fields-digest-requires : goal.digest_of_fields-digest-requires
digest_of_fields-digest-requires t c =
    let w = part-node_count _ _ _ _ c.loop-field.invariant.whole c.loop-field-test.true c.field-item.is in
    omega (arith, w)
