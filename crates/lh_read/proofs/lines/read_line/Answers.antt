use Rattle.std.proofs.Common.{Err, ap}
use Rattle.std.proofs.lemmas.Result.{err_from_is_err_and}
use Rattle.lh_read_phrases.specs.SyntaxOf.{item_of}
use Rattle.lh_read.specs.InOrder.{state_of}
use Rattle.lh_read.proofs.Progress.{line-steps, line-unspelled}
use Rattle.lh_read.proofs.lines.read_line.Goals as goal

pub returns-in_err-said-clause-step : goal.returns-in_err-said-clause-step
returns-in_err-said-clause-step c =
    let p = err_from_is_err_and c.from_residual.result c.from_residual.ensures.1 in
    rw (p.1, p.2) (line-unspelled _ (state_of c.args.reader.now) (state_of c.args.reader.now) c.args.text.now c.of-tokens.result c.of-tokens.ensures
    (λ q. c.in_err-said.ensures.nothing (ap (λ e. Err e) q)))

pub returns-clause-step : goal.returns-clause-step
returns-clause-step c =
    line-steps c.take.result (state_of c.args.reader.now) (state_of c.take.new.self) c.args.text.now c.of-tokens.result (item_of c.in_ok-said.said) c.of-tokens.ensures c.in_ok-said.ensures.said
    c.take.ensures.step
