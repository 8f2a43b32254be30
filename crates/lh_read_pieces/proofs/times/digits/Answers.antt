use Rattle.std.proofs.Common.{◌≡◌, ◌+◌, get_or, drop, true, false, sym, ◌∙◌, arith}
use Rattle.lh_unit.specs.Numerals.{is_digit}
use Rattle.lh_read_pieces.specs.Times.{digit_run}
use Rattle.lh_read_pieces.proofs.Runs.{run-step, run-stop}
use Rattle.lh_read_pieces.proofs.times.digits.Goals as goal

pub loop-i-preserved : goal.loop-i-preserved
loop-i-preserved c =
    let v : digit_run (drop c.loop-i.i c.args.text.now) + c.loop-i.i ≡ digit_run c.args.text.now = c.loop-i.invariant in
    let d : is_digit (get_or c.args.text.now c.loop-i.i 0) ≡ true = sym c.is_digit.ensures ∙ c.if-not-is_digit.false in
    omega (arith, v, run-step c.args.text.now c.loop-i.i c.loop-i-test.true d)

pub returns-then-not-is_digit-clause-count : goal.returns-then-not-is_digit-clause-count
returns-then-not-is_digit-clause-count c =
    let v : digit_run (drop c.loop-i.i c.args.text.now) + c.loop-i.i ≡ digit_run c.args.text.now = c.loop-i.invariant in
    let d : is_digit (get_or c.args.text.now c.loop-i.i 0) ≡ false = sym c.is_digit.ensures ∙ c.if-not-is_digit.true in
    omega (arith, v, run-stop c.args.text.now c.loop-i.i c.loop-i-test.true d)
