use Rattle.lh_wave.proofs.WireLemmas.{NumberLeft}
use Rattle.lh_wave.proofs.wire.put_number_bits.Given as goal

abbrev pub invariant-loop-bit : goal.invariant-loop-bit
invariant-loop-bit l = NumberLeft l.fn.to l.to l.fn.width l.fn.number l._bit l.rest
