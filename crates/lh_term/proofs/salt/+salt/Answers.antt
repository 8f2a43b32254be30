use Rattle.std.proofs.Common.{arith}
use Rattle.lh_types.proofs.DatumRows.{part-datum_count}
use Rattle.lh_term.proofs.Salts.{SaltAt-next}
use Rattle.lh_term.proofs.salt.+salt.Goals as goal

pub salt_of_parts-salt_of_value-requires : goal.salt_of_parts-salt_of_value-requires
salt_of_parts-salt_of_value-requires t c =
    let w = part-datum_count _ _ _ _ c.loop-v.invariant.whole c.loop-v-test.true c.v-item.is in
    omega (arith, w)

pub salt_of_parts-loop-v-preserved : goal.salt_of_parts-loop-v-preserved
salt_of_parts-loop-v-preserved t c = SaltAt-next _ _ _ _ _ _ _ _ c.loop-v.invariant c.loop-v-test.true c.v-item.is c.salt_of_value.ensures c.mix-salt.ensures
