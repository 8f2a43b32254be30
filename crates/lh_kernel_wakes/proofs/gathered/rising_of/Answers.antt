use Rattle.lh_kernel_wakes.proofs.GatheredNumbers.{together_none, together_more, together_all}
use Rattle.lh_kernel_wakes.proofs.gathered.rising_of.Goals as goal

pub loop-n-init : goal.loop-n-init
loop-n-init c = together_none _ _ _ c.new-rising.ensures c.into_iter-n-iterator.ensures.into_iter_gives.0

pub loop-n-preserved : goal.loop-n-preserved
loop-n-preserved c = together_more _ _ _ _ _ _ c.in-Some.ensures.steps c.in_ok-enter.ensures.has c.loop-n.invariant

pub returns : goal.returns
returns c = together_all _ _ _ c.in-None.ensures.steps.0 c.loop-n.invariant
