use Rattle.std.proofs.Common.{◌≡◌, ◌∙◌, ap}
use Rattle.std.proofs.lemmas.Result.{err_from_is_err_and}
use Rattle.lh_unit.specs.Arena.{Arena, contents}
use Rattle.lh_unit.specs.Canon.{canon}
use Rattle.lh_result.proofs.Writes.{BreaksOff_of}
use Rattle.lh_run.proofs.check.check.Goals as goal

pub returns-in_err-write_all : goal.returns-in_err-write_all
returns-in_err-write_all g c =
    let p = err_from_is_err_and c.from_residual-in_err-write_all.result c.from_residual-in_err-write_all.ensures.1 in
    let canonical : c.deref.result.now ≡ canon (contents c.args.file.now) = c.deref.ensures.value ∙ c.in_ok-text.ensures ∙ ap (λ (a : Arena). canon (contents a)) c.module.ensures.«module» in
    let off = rw canonical at (BreaksOff_of _ _ _ _ _ c.in_err-write_all.ensures.failed c.in_err-write_all.ensures.rose) in
    rw (p.1, p.2) off
