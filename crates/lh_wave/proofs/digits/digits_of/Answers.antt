use Rattle.std.proofs.Common.{◌≤◌, ◌*◌, arith}
use Rattle.lh_wave.proofs.Nibbles.{NibblesAt-next, NibblesAt-end}
use Rattle.lh_wave.proofs.digits.digits_of.Goals as goal

pub loop-i-preserved : goal.loop-i-preserved
loop-i-preserved c =
    let few : 4 * c.div_ceil-i-end.result ≤ 128 = omega (arith, c.div_ceil-i-end.ensures, c.requires) in
    record {
      digits = NibblesAt-next c.div_ceil-i-end.result c.args.number c.loop-i.i c.loop-i.rest c.loop-i.digits c.put_nibble.new.digits c.loop-i-test.true few c.loop-i.invariant.digits c.put_nibble.ensures;
    }

pub returns : goal.returns
returns c =
    let few : 4 * c.div_ceil-i-end.result ≤ 128 = omega (arith, c.div_ceil-i-end.ensures, c.requires) in
    let wide : c.args.width ≤ 4 * c.div_ceil-i-end.result = omega (arith, c.div_ceil-i-end.ensures) in
    NibblesAt-end c.args.width c.div_ceil-i-end.result c.args.number c.loop-i.i c.loop-i.rest c.loop-i.digits c.loop-i.invariant.digits c.loop-i-test.false (omega (arith, c.loop-i.auto.i-end)) wide few
