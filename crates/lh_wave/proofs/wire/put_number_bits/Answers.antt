use Rattle.lh_wave.proofs.WireLemmas.{number_start, number_next, number_end}
use Rattle.lh_wave.proofs.wire.put_number_bits.Goals as goal

pub loop-bit-init : goal.loop-bit-init
loop-bit-init c = number_start _ _ _

pub loop-bit-preserved : goal.loop-bit-preserved
loop-bit-preserved c = number_next _ _ _ _ _ _ _ c.loop-bit-test.true c.put_bit.ensures c.loop-bit.invariant

pub returns : goal.returns
returns c = number_end _ _ _ _ _ _ c.loop-bit-test.false c.loop-bit.invariant
