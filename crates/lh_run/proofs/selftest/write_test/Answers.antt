use Rattle.std.proofs.Common.{◌≡◌, ◌∙◌}
use Rattle.std.proofs.lemmas.Result.{err_from_is_err_and}
use Rattle.lh_selftest.specs.Answer.{answer_of}
use Rattle.lh_result.proofs.Writes.{BreaksOff_of}
use Rattle.lh_run.proofs.selftest.write_test.Goals as goal

pub returns-in_err-write_all : goal.returns-in_err-write_all
returns-in_err-write_all g c =
    let p = err_from_is_err_and c.from_residual-in_err-write_all.result c.from_residual-in_err-write_all.ensures.1 in
    let file = c.answer_law.ensures _ _ c.in_ok-text.ensures in
    let text : c.deref.result.now ≡ answer_of file.0 = c.deref.ensures.value ∙ file.2 in
    let off = rw text at (BreaksOff_of _ _ _ _ _ c.in_err-write_all.ensures.failed c.in_err-write_all.ensures.rose) in
    rw (p.1, p.2) (file.0, file.1, off)
