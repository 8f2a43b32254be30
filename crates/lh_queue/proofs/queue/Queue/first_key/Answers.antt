use Rattle.std.proofs.Common.{◌∙◌}
use Rattle.lh_queue.proofs.Storage.{stored, first_by}
use Rattle.lh_queue.proofs.queue.Queue.first_key.Goals as goal

pub returns-in-Some : goal.returns-in-Some
returns-in-Some c =
    let s = stored c.self.inside.links c.self.inside.buckets.items _ c.args.self.now c.self.invariant c.self.view_is in
    first_by c.args.self.now.held _ c.as_slice.result.now (c.as_slice.ensures ∙ s.buckets_are) c.in-Some.ensures.value

pub returns-in-None : goal.returns-in-None
returns-in-None c =
    let s = stored c.self.inside.links c.self.inside.buckets.items _ c.args.self.now c.self.invariant c.self.view_is in
    first_by c.args.self.now.held _ c.as_slice.result.now (c.as_slice.ensures ∙ s.buckets_are) c.in-None.ensures.value
