use Rattle.std.proofs.Common.{◌++◌, arith}
use Rattle.std.proofs.lemmas.Result.{err_from_is_err_and}
use Rattle.lh_result.proofs.Writes.{Puts_of, BreaksOff_of, BreaksOff_first, BreaksOff_second, Puts_second, Appends_more}
use Rattle.lh_result.proofs.status.write_three.Goals as goal

pub returns-in_err-write_all-clause-puts : goal.returns-in_err-write_all-clause-puts
returns-in_err-write_all-clause-puts g c =
    let p = err_from_is_err_and c.from_residual.result c.from_residual.ensures.1 in
    let off = BreaksOff_of _ _ _ _ _ c.in_err-write_all.ensures.failed c.in_err-write_all.ensures.rose in
    rw p.1 (BreaksOff_first _ (c.args.first.now ++ c.args.second.now) c.args.third.now (BreaksOff_first _ c.args.first.now c.args.second.now off))

pub returns-in_err-write_all-2-clause-puts : goal.returns-in_err-write_all-2-clause-puts
returns-in_err-write_all-2-clause-puts g c =
    let p = err_from_is_err_and c.from_residual-in_err-write_all-2.result c.from_residual-in_err-write_all-2.ensures.1 in
    let off = BreaksOff_of _ _ _ _ _ c.in_err-write_all-2.ensures.failed c.in_err-write_all-2.ensures.rose in
    let cut = BreaksOff_second _ _ _ _ _ _ c.args.first.now c.args.second.now c.in_ok-write_all.ensures.ok c.in_ok-write_all.ensures.never_fall off in
    rw p.1 (BreaksOff_first _ (c.args.first.now ++ c.args.second.now) c.args.third.now cut)

pub returns-clause-puts : goal.returns-clause-puts
returns-clause-puts g c =
    let both = Appends_more _ _ _ c.args.first.now c.args.second.now c.in_ok-write_all.ensures.ok c.in_ok-write_all-2.ensures.ok in
    let last = Puts_of _ _ _ _ _ _ c.write_all-3.ensures.ok c.write_all-3.ensures.failed c.write_all-3.ensures.rose in
    Puts_second _ _ _ _ _ _ _ (c.args.first.now ++ c.args.second.now) c.args.third.now both (omega (arith, c.in_ok-write_all.ensures.never_fall, c.in_ok-write_all-2.ensures.never_fall)) last
