use Rattle.std.proofs.Common.{◌≡◌, true}
use Rattle.lh_args.specs.Meant.{meant}
use Rattle.lh_result.proofs.Callings.{IsMisuse-unknown, Calls-known}
use Rattle.lh_result.proofs.called.called.Goals as goal

pub returns-then-can_do : goal.returns-then-can_do
returns-then-can_do g c =
    let asks = rw c.in-OnFile.is at c.in_ok-command.ensures.some in
    rw c.in-OnFile.is (Calls-known _ _ (meant c.in-OnFile.on_file) asks (c.can_do.ensures.0 c.if-can_do.true))

pub returns-else-can_do : goal.returns-else-can_do
returns-else-can_do g c =
    let asks = rw c.in-OnFile.is at c.in_ok-command.ensures.some in
    IsMisuse-unknown _ _ (meant c.in-OnFile.on_file) asks (λ known. (let can : c.can_do.result ≡ true = c.can_do.ensures.1 known in let cannot = c.if-can_do.false in cc))
