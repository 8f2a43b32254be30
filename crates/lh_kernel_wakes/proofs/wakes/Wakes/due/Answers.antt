use Rattle.std.proofs.Common.{ap, sym, ◌∙◌}
use Rattle.lh_kernel_wakes.specs.Waking.{first_at}
use Rattle.lh_kernel_wakes.proofs.WakeOrder.{due_start, due_step, due_stop, due_end, due_are}
use Rattle.lh_kernel_wakes.proofs.wakes.Wakes.due.Goals as goal

pub loop-wake-init : goal.loop-wake-init
loop-wake-init c = due_start c.args.at _ _ _ _ c.new-due.ensures.items c.into_iter-wake-iterator.ensures.into_iter_gives.0 c.self.view_is

pub returns-then-not-is_at : goal.returns-then-not-is_at
returns-then-not-is_at c =
    due_are _ _ c.args.at _ c.self.view_is c.into_iter-wake-iterator.ensures.into_iter_gives.4 c.requires
    (due_stop c.args.at _ _ _ _ c.in-Some.wake.now c.in-Some.ensures.steps (sym c.if-not-is_at.ensures) c.loop-wake.invariant ∙ sym (ap (first_at c.args.at) c.self.view_is))

pub loop-wake-preserved : goal.loop-wake-preserved
loop-wake-preserved c =
    due_step c.args.at _ _ _ _ _ c.in-Some.wake.now c.in_ok-push.ensures.items c.in-Some.ensures.steps (sym c.if-not-is_at.ensures) c.loop-wake.invariant

pub returns : goal.returns
returns c =
    due_are _ _ c.args.at _ c.self.view_is c.into_iter-wake-iterator.ensures.into_iter_gives.4 c.requires
    (due_end c.args.at _ _ _ c.in-None.ensures.steps.0 c.loop-wake.invariant ∙ sym (ap (first_at c.args.at) c.self.view_is))
