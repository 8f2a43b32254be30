use Rattle.std.proofs.Common.{◌≡◌, ◌≤◌, ◌+◌, ap, sym, arith, subst, ◌-◌, min, ℕ}
use Rattle.slab.specs.Slab.{slab_len}
use Rattle.std.proofs.lemmas.Option.{get_or_from_slice_get}
use Rattle.lh_queue.specs.Queued.{Waiting}
use Rattle.lh_queue.specs.Stored.{spare_by}
use Rattle.lh_queue.proofs.Storage.{stored, seen}
use Rattle.lh_queue.proofs.PutPlaces.{bucket_there, put_first, spare_put}
use Rattle.lh_queue.proofs.queue.Queue.put_first.Goals as goal

pub get-bucket-requires : goal.get-bucket-requires
get-bucket-requires c =
    let s = stored c.self.inside.links c.self.inside.buckets.items _ c.args.self.now c.self.invariant c.self.view_is in
    bucket_there c.self.inside.links c.self.inside.links c.self.inside.buckets.items c.self.inside.buckets.items c.args.w 0 c.args.k c.args.self.now.held s c.requires.place

pub set-requires : goal.set-requires
set-requires c =
    let s = stored c.self.inside.links c.self.inside.buckets.items _ c.args.self.now c.self.invariant c.self.view_is in
    bucket_there c.self.inside.links c.self.inside.links c.self.inside.buckets.items c.self.inside.buckets.items c.args.w 0 c.args.k c.args.self.now.held s c.requires.place

pub invariant_of-self : goal.invariant_of-self
invariant_of-self c =
    let s = stored c.self.inside.links c.self.inside.buckets.items _ c.args.self.now c.self.invariant c.self.view_is in
    let e = c.insert_reserved-first.ensures in
    let b = c.get-bucket.result in
    let there = sym (get_or_from_slice_get c.self.inside.buckets.items c.args.k b b c.get-bucket.ensures) in
    let p = put_first c.self.inside.links c.insert_reserved-first.new.self c.self.inside.buckets.items c.set.new.self.items c.args.w c.insert_reserved-first.result
    c.args.k c.args.self.now.held b b s c.requires.place c.requires.once e.was_vacant there there e.updates e.len c.set.ensures.items in
    (_, p.1)

pub returns : goal.returns
returns c =
    let s = stored c.self.inside.links c.self.inside.buckets.items _ c.args.self.now c.self.invariant c.self.view_is in
    let e = c.insert_reserved-first.ensures in
    let b = c.get-bucket.result in
    let there = sym (get_or_from_slice_get c.self.inside.buckets.items c.args.k b b c.get-bucket.ensures) in
    let p = put_first c.self.inside.links c.insert_reserved-first.new.self c.self.inside.buckets.items c.set.new.self.items c.args.w c.insert_reserved-first.result
    c.args.k c.args.self.now.held b b s c.requires.place c.requires.once e.was_vacant there there e.updates e.len c.set.ensures.items in
    let v : spare_by c.self.inside.links c.self.inside.buckets.spare ≡ c.args.self.now.spare = ap (λ (x : Waiting). x.spare) c.self.view_is in
    let old = c.self.inside.links in
    let new = c.insert_reserved-first.new.self in
    let P : ℕ → Type 0 = λ n. n ≤ min (new.capacity - slab_len new) c.set.new.self.spare + 1 in
    record {
      key = c.insert_reserved-first.result;
      free = p.0;
      held = seen _ _ _ p.1;
      spare = subst P v (spare_put old.capacity (slab_len old) c.self.inside.buckets.spare new.capacity (slab_len new) c.set.new.self.spare e.capacity e.len (omega (arith, c.set.ensures.spare)));
    }
