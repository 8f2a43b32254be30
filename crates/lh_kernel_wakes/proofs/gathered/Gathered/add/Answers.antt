use Rattle.lh_kernel_wakes.proofs.GatheredNumbers.{set_more, more_left, more_right, more_there}
use Rattle.lh_kernel_wakes.proofs.gathered.Gathered.add.Goals as goal

pub returns-in_ok-enter-clause-has : goal.returns-in_ok-enter-clause-has
returns-in_ok-enter-clause-has c = more_left _ _ _ _ c.args.n c.self.view_is c.in_ok-enter.ensures.has

pub returns-in_ok-insert-clause-has : goal.returns-in_ok-insert-clause-has
returns-in_ok-insert-clause-has c = more_right _ _ _ _ c.args.n c.self.view_is (set_more _ _ c.args.n c.in_ok-insert.ensures.updates.0)

pub returns-else-not-has-clause-has : goal.returns-else-not-has-clause-has
returns-else-not-has-clause-has c = more_there _ _ _ c.args.n c.self.view_is (c.has.ensures.0 c.if-not-has.false)
