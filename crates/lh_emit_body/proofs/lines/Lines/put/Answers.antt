use Rattle.std.proofs.Common.{◌≡◌, length, refl, arith}
use Rattle.lh_emit_body.proofs.AddedLines.{is-most, not-most, puts-nothing, puts-one}
use Rattle.lh_emit_body.proofs.lines.Lines.put.Goals as goal

pub returns-then-len-eq-MAX_LINES : goal.returns-then-len-eq-MAX_LINES
returns-then-len-eq-MAX_LINES c = is-most (length c.args.self.now.lines) (omega arith)

pub returns-in_err-add : goal.returns-in_err-add
returns-in_err-add c = puts-nothing c.args.self.now c.add.new.self c.args.inst c.from_residual.result c.from_residual.ensures.1

pub returns : goal.returns
returns c =
    puts-one c.args.self.now c.add.new.self c.args.inst c.requires.room c.requires.named (not-most (length c.args.self.now.lines) (λ e. omega (arith, e)))
    c.add.ensures.names c.in_ok-add.ensures.added c.add.ensures.fresh
