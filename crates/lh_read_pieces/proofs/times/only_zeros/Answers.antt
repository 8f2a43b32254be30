use Rattle.std.proofs.Common.{sym, ◌∙◌}
use Rattle.lh_read_pieces.proofs.Runs.{zeros-stop}
use Rattle.lh_read_pieces.proofs.times.only_zeros.Goals as goal

pub returns-then-b-ne48 : goal.returns-then-b-ne48
returns-then-b-ne48 c = sym (sym c.loop-b.invariant ∙ zeros-stop c.args.text.now c.loop-b.b-index c.loop-b-test.true c.if-b-ne48.true)
