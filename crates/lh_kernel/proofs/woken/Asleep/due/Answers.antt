use Rattle.std.proofs.Common.{ℕ, refl}
use Rattle.lh_kernel_wakes.specs.Waking.{IsNoted}
use Rattle.lh_kernel.proofs.WokenInstances.{first_more, first_due}
use Rattle.lh_kernel.proofs.woken.Asleep.due.Goals as goal

pub loop-instance-preserved : goal.loop-instance-preserved
loop-instance-preserved c = first_more c.as_slice-instance-items.result.now c.loop-instance.instance-index _ c.loop-instance.due c.enter.new.self
    c.loop-instance-test.true refl c.loop-instance.invariant c.in_ok-enter.ensures.has

pub returns : goal.returns
returns c =
    let P : ℕ → Type 0 = λ k. IsNoted c.args.self.now.noted.now.wakes c.args.at k in
    first_due c.in_ok-due.field-0.items c.as_slice-instance-items.result.now c.loop-instance.instance-index c.loop-instance.due P
    c.as_slice-instance-items.ensures.value c.loop-instance-test.false c.loop-instance.invariant c.in_ok-due.ensures.all
