use Rattle.std.proofs.Common.{arith, ◌≤◌, ◌+◌, ◌*◌, ◌-◌, get_or, drop, sym, ◌∙◌, ap}
use Rattle.std.specs.Prelude.{◌^◌}
use Rattle.lh_read_pieces.specs.Pieces.{small}
use Rattle.lh_read_pieces.proofs.Digits.{small-past, digit_step}
use Rattle.lh_read_pieces.proofs.numbers.digits.Goals as goal

pub returns-then-n-d : goal.returns-then-n-d
returns-then-n-d c =
    let past : 2 ^ 128 ≤ c.loop-b.n * 10 + (get_or c.args.text.now c.loop-b.b-index 0 - 48) = omega arith in
    sym (ap small (sym c.loop-b.invariant ∙ digit_step c.args.text.now c.loop-b.b-index c.loop-b.n c.loop-b-test.true (omega arith) (omega arith))
    ∙ small-past (drop (c.loop-b.b-index + 1) c.args.text.now) _ past)
