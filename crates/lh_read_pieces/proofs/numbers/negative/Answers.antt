use Rattle.std.proofs.Common.{◌-◌, ◌+◌, ◌≤◌, Some, arith, sym, ◌∙◌, ap}
use Rattle.std.specs.Prelude.{◌^◌}
use Rattle.lh_read_pieces.proofs.Halves.{negative-some}
use Rattle.lh_read_pieces.proofs.numbers.negative.Goals as goal

pub returns : goal.returns
returns c =
    let e = c.half_of-half.ensures.value in
    let u : c.args.k ≤ 2 ^ (c.args.width - 1) = omega (arith, e) in
    ap (λ h. Some (h - c.args.k + h)) e ∙ sym (negative-some c.args.width c.args.k c.requires.low (omega arith) u)
