use Rattle.std.proofs.Common.{◌≡◌, arith, ap, length}
use Rattle.lh_types.specs.ValueOf.{datum_of}
use Rattle.lh_types.proofs.Limits.{bit_count-le}
use Rattle.lh_bits.proofs.ValueBits.{length-value_bits}
use Rattle.lh_bits.proofs.layout.to_bits.Goals as goal

pub append_value-requires : goal.append_value-requires
append_value-requires c =
    let bits = length-value_bits (datum_of c.args.v.now) c.requires.of c.requires.fits in
    let none : length c.in_ok-to.to ≡ 0 = ap length c.in_ok-to.ensures in
    omega (arith, none, bits, bit_count-le c.requires.of c.requires.is_data)
