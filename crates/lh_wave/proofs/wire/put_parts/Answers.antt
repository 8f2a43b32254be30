use Rattle.std.proofs.Common.{◌≡◌, ◌-◌, length, arith}
use Rattle.lh_types.specs.ValueOf.{datum_of}
use Rattle.lh_types.specs.Bits.{value_bits}
use Rattle.lh_wave.proofs.WireLemmas.{one_bit, more_bits}
use Rattle.lh_wave.proofs.wire.put_parts.Goals as goal

pub returns-then-saturating_sub-eq1 : goal.returns-then-saturating_sub-eq1
returns-then-saturating_sub-eq1 c =
    let count : c.saturating_sub.result ≡ length c.put_value_bits.new.to.items - length c.args.to.now.items = omega (arith, c.saturating_sub.ensures, c.len.ensures, c.len-start.ensures) in
    one_bit c.saturating_sub.result c.args.to.now _ (value_bits (datum_of c.args.v.now)) count c.if-saturating_sub-eq1.true c.put_value_bits.ensures

pub returns : goal.returns
returns c =
    let count : c.saturating_sub.result ≡ length c.put_value_bits.new.to.items - length c.args.to.now.items = omega (arith, c.saturating_sub.ensures, c.len.ensures, c.len-start.ensures) in
    more_bits c.saturating_sub.result c.len-start.result c.args.to.now c.put_value_bits.new.to _ _ _ (value_bits (datum_of c.args.v.now)) count c.if-saturating_sub-eq1.false c.len-start.ensures
    c.put_value_bits.ensures c.put.ensures c.reverse_from.ensures.items c.reverse_from.ensures.whole c.put-2.ensures
