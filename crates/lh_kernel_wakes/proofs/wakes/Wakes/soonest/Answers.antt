use Rattle.std.proofs.Common.{Some, subst}
use Rattle.lh_kernel_wakes.specs.Waking.{IsSoonest}
use Rattle.lh_kernel_wakes.proofs.WakeOrder.{soonest_is}
use Rattle.lh_kernel_wakes.proofs.wakes.Wakes.soonest.Goals as goal

pub returns-in-Some : goal.returns-in-Some
returns-in-Some c = subst (λ z. IsSoonest z (Some c.in-Some.wake.now.at)) c.self.view_is (soonest_is _ c.in-Some.wake.now c.in-Some.ensures.member c.in-Some.ensures.least)
