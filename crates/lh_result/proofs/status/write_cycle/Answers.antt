use Rattle.std.proofs.Common.{◌++◌, codes}
use Rattle.std.proofs.lemmas.Result.{err_from_is_err_and}
use Rattle.lh_result.specs.StatusLines.{unit_word}
use Rattle.lh_result.proofs.Writes.{BreaksOff_first, Puts_second, Puts_of}
use Rattle.lh_result.proofs.status.write_cycle.Goals as goal

pub returns-in_err-write_unit-clause-puts : goal.returns-in_err-write_unit-clause-puts
returns-in_err-write_unit-clause-puts g c =
    let p = err_from_is_err_and c.from_residual.result c.from_residual.ensures.1 in
    rw p.1 (BreaksOff_first _ (codes "top: InstCycle " ++ unit_word c.args.unit.now) (codes "\n") c.in_err-write_unit.ensures.puts)

pub returns-clause-puts : goal.returns-clause-puts
returns-clause-puts g c =
    let last = Puts_of _ _ _ _ _ _ c.write_all.ensures.ok c.write_all.ensures.failed c.write_all.ensures.rose in
    Puts_second _ _ _ _ _ _ _ (codes "top: InstCycle " ++ unit_word c.args.unit.now) (codes "\n") c.in_ok-write_unit.ensures.puts c.in_ok-write_unit.ensures.never_fall last
