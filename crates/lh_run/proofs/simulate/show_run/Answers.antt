use Rattle.std.proofs.Common.{◌∙◌}
use Rattle.std.proofs.lemmas.Result.{err_from_is_err_and}
use Rattle.lh_result.proofs.Simulations.{ShowsRun-broken, ShowsRun-unreported, ShowsRun-whole}
use Rattle.lh_run.proofs.simulate.show_run.Goals as goal

pub returns-in_err-ending-clause-shows : goal.returns-in_err-ending-clause-shows
returns-in_err-ending-clause-shows g c =
    let p = err_from_is_err_and c.from_residual.result c.from_residual.ensures.1 in
    let mode = c.mode_of-mode.ensures in
    let e = c.in_err-ending.ensures in
    rw (p.1, p.2) (ShowsRun-broken c.in_err-ending.field-0.0 c.args.asked.now.vcd _ _ _ _ _ _ _ _ _ _ (rw mode at e.fault.0) e.rose e.fault.1)

pub returns-in_err-write_all-clause-shows : goal.returns-in_err-write_all-clause-shows
returns-in_err-write_all-clause-shows g c =
    let p = err_from_is_err_and c.from_residual-in_err-write_all.result c.from_residual-in_err-write_all.ensures.1 in
    let mode = c.mode_of-mode.ensures in
    let e = c.in_ok-ending.ensures in
    let reports = rw c.requires.no_reports at (c.deref.ensures.value ∙ e.reports) in
    rw (p.1, p.2) (ShowsRun-unreported c.args.asked.now.vcd _ _ _ _ _ _ _ _ _ (rw mode at e.text) e.members (rw reports at c.in_err-write_all.ensures.failed) c.in_err-write_all.ensures.rose)

pub returns-clause-shows : goal.returns-clause-shows
returns-clause-shows g c =
    let mode = c.mode_of-mode.ensures in
    let e = c.in_ok-ending.ensures in
    let reports = rw c.requires.no_reports at (c.deref.ensures.value ∙ e.reports) in
    ShowsRun-whole c.args.asked.now.vcd _ _ _ _ _ _ _ _ e.ending.0 e.ending.1 (rw mode at e.text) (rw reports at c.in_ok-write_all.ensures.ok) e.members
