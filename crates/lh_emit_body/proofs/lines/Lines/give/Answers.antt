use Rattle.std.proofs.Common.{◌≡◌, length, arith}
use Rattle.lh_emit_body.proofs.AddedLines.{is-most, has-few, gives-nothing}
use Rattle.lh_emit_body.proofs.lines.Lines.give.Goals as goal

pub returns-then-len-eq-MAX_LINES : goal.returns-then-len-eq-MAX_LINES
returns-then-len-eq-MAX_LINES c = is-most (length c.args.self.now.lines) (omega arith)

pub give_line-requires : goal.give_line-requires
give_line-requires c = record { room = c.requires.room; short = has-few c.args.self.now c.requires.room (λ e. omega (arith, e)); named = c.requires.named }

pub returns-in_err-give_line : goal.returns-in_err-give_line
returns-in_err-give_line c = gives-nothing c.args.self.now c.give_line.new.self c.args.inst c.from_residual.result c.from_residual.ensures.1

pub returns : goal.returns
returns c = c.in_ok-give_line.ensures
