use Rattle.std.proofs.Common.{◌≡◌, ℕ, replicate, arith, rules}
use Rattle.lh_bits.proofs.PackedParts.{packed_zeros}
use Rattle.lh_bits.proofs.FlagRuns.{flags-zeros}
use Rattle.lh_bits.proofs.bits.Bits.zeros.Goals as goal

pub invariant_of-result : goal.invariant_of-result
invariant_of-result c =
    let e : c.in_ok-words.words.items ≡ replicate {A = ℕ} c.div_ceil.result 0 = search rules in
    rw e (packed_zeros c.args.len c.div_ceil.result (omega arith) (omega (arith, c.div_ceil.ensures)))

pub returns : goal.returns
returns c =
    let e : c.in_ok-words.words.items ≡ replicate {A = ℕ} c.div_ceil.result 0 = search rules in
    rw e (flags-zeros c.args.len 0 c.div_ceil.result)
