use Rattle.lh_run.proofs.Faithfully.{faithful-run}
use Rattle.lh_result.proofs.Accounts.{Account-run, IsResultOrNoMemory-run}
use Rattle.lh_run.proofs.top.run.Goals as goal

pub returns-clause-account : goal.returns-clause-account
returns-clause-account g c =
    let before = c.perform-status.ensures in
    let line = c.write_line.ensures in
    Account-run _ _ _ _ _ _ _ _ _ _ _ _ _ before.performs line.puts before.never_fall line.never_fall

pub returns-clause-complete : goal.returns-clause-complete
returns-clause-complete g c =
    let before = c.perform-status.ensures in
    let line = c.write_line.ensures in
    let account = Account-run _ _ _ _ _ _ _ _ _ _ _ _ _ before.performs line.puts before.never_fall line.never_fall in
    IsResultOrNoMemory-run _ _ _ _ _ _ _ _ _ _ _ _ account before.rose

pub returns-clause-faithful : goal.returns-clause-faithful
returns-clause-faithful g c = faithful-run _ _ _ _ _ _ _ _ _ _ _ c.perform-status.ensures.faithful c.write_line.ensures.puts
