use Rattle.std.proofs.Common.{◌∙◌}
use Rattle.lh_queue.proofs.Storage.{stored}
use Rattle.lh_queue.proofs.BucketLeads.{are_buckets}
use Rattle.lh_queue.proofs.queue.Queue.buckets.Goals as goal

pub returns-clause-list : goal.returns-clause-list
returns-clause-list c =
    let s = stored c.self.inside.links c.self.inside.buckets.items _ c.args.self.now c.self.invariant c.self.view_is in
    c.as_slice.ensures ∙ s.buckets_are

pub returns-clause-lead : goal.returns-clause-lead
returns-clause-lead c =
    let s = stored c.self.inside.links c.self.inside.buckets.items _ c.args.self.now c.self.invariant c.self.view_is in
    are_buckets c.args.self.now.held c.as_slice.result.now s.order s.keys (c.as_slice.ensures ∙ s.buckets_are)

pub returns-clause-order : goal.returns-clause-order
returns-clause-order c =
    let s = stored c.self.inside.links c.self.inside.buckets.items _ c.args.self.now c.self.invariant c.self.view_is in
    s.order

pub returns-clause-keys : goal.returns-clause-keys
returns-clause-keys c =
    let s = stored c.self.inside.links c.self.inside.buckets.items _ c.args.self.now c.self.invariant c.self.view_is in
    s.keys
