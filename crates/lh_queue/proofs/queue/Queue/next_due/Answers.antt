use Rattle.lh_queue.proofs.Storage.{stored}
use Rattle.lh_queue.proofs.BitsHeld.{soonest_first, soonest_no, least_first}
use Rattle.lh_queue.proofs.queue.Queue.next_due.Goals as goal

pub returns-in-Some-clause-least : goal.returns-in-Some-clause-least
returns-in-Some-clause-least c =
    let s = stored c.self.inside.links c.self.inside.buckets.items _ c.args.self.now c.self.invariant c.self.view_is in
    least_first c.args.self.now.held c.in-Some.wish.now s.order c.in-Some.ensures

pub returns-in-Some-clause-soonest : goal.returns-in-Some-clause-soonest
returns-in-Some-clause-soonest c =
    let s = stored c.self.inside.links c.self.inside.buckets.items _ c.args.self.now c.self.invariant c.self.view_is in
    soonest_first c.args.self.now.held c.in-Some.wish.now s.order c.in-Some.ensures

pub returns-in-None-clause-soonest : goal.returns-in-None-clause-soonest
returns-in-None-clause-soonest c = soonest_no c.args.self.now.held c.in-None.ensures
