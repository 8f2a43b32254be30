use Rattle.std.proofs.Common.{◌≡◌, ◌∙◌, ap, sym, subst, nat_lt, rules, of_calls, List, arith}
use Rattle.std.proofs.lemmas.Fn.{always_returns_same}
use Rattle.lh_queue.specs.declared.queue.Bucket.{Bucket}
use Rattle.lh_queue.specs.Buckets.{TimesRise, buckets_of}
use Rattle.lh_queue.specs.Places.{earlier}
use Rattle.lh_queue.proofs.Storage.{stored}
use Rattle.lh_queue.proofs.WishPlaces.{parted, earlier_at, buckets_rise}
use Rattle.lh_queue.proofs.queue.Queue.first_from.Goals as goal

pub returns-clause-number : goal.returns-clause-number
returns-clause-number c =
    let s = stored c.self.inside.links c.self.inside.buckets.items _ c.args.self.now c.self.invariant c.self.view_is in
    let laid : c.as_slice.result.now ≡ buckets_of c.args.self.now.held = c.as_slice.ensures ∙ s.buckets_are in
    let P : List Bucket → Type 0 = TimesRise in
    let rise : TimesRise c.as_slice.result.now = subst P (sym laid) (buckets_rise c.args.self.now.held s.order) in
    let point = c.partition_point.ensures.partitioned (λ b. nat_lt b.fs c.args.fs) (always_returns_same _ _ _ (λ a r f k. search (rules, of_calls))) (parted c.args.fs c.as_slice.result.now rise) in
    earlier_at c.args.fs c.as_slice.result.now c.partition_point.result c.partition_point.ensures.bound (λ k d h. point.0 k d (omega arith) h) (λ k d h l. point.1 k d h l)
    ∙ ap (earlier c.args.fs) laid

pub returns-clause-order : goal.returns-clause-order
returns-clause-order c = (stored c.self.inside.links c.self.inside.buckets.items _ c.args.self.now c.self.invariant c.self.view_is).order

pub returns-clause-keys : goal.returns-clause-keys
returns-clause-keys c = (stored c.self.inside.links c.self.inside.buckets.items _ c.args.self.now c.self.invariant c.self.view_is).keys
