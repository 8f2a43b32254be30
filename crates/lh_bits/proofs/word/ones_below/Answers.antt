use Rattle.std.proofs.Common.{◌≡◌, ◌-◌, ◌^◌, ap, ◌∙◌, arith}
use Rattle.std.proofs.lemmas.Nat.Bits.{ones_shr}
use Rattle.lh_bits.proofs.word.ones_below.Goals as goal

pub returns : goal.returns
returns c =
    let d : 64 - (64 - c.args.n) ≡ c.args.n = omega arith in
    ones_shr 64 (64 - c.args.n) (omega arith) ∙ ap (λ k. 2 ^ k - 1) d
