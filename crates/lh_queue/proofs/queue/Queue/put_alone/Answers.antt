use Rattle.std.proofs.Common.{◌≡◌, ◌≤◌, ◌+◌, ap, arith, subst, ◌-◌, min, ℕ}
use Rattle.slab.specs.Slab.{slab_len}
use Rattle.lh_queue.specs.Queued.{Waiting}
use Rattle.lh_queue.specs.Stored.{spare_by}
use Rattle.lh_queue.proofs.Storage.{stored, seen}
use Rattle.lh_queue.proofs.PutPlaces.{place_within, put_alone, spare_put}
use Rattle.lh_queue.proofs.queue.Queue.put_alone.Goals as goal

pub insert-requires-clause-within : goal.insert-requires-clause-within
insert-requires-clause-within c =
    let s = stored c.self.inside.links c.self.inside.buckets.items _ c.args.self.now c.self.invariant c.self.view_is in
    let h = place_within c.self.inside.links c.self.inside.links c.self.inside.buckets.items c.self.inside.buckets.items c.args.w 0 c.args.k c.args.self.now.held s c.requires.place in
    h

pub insert-requires-clause-room : goal.insert-requires-clause-room
insert-requires-clause-room c =
    let v : spare_by c.self.inside.links c.self.inside.buckets.spare ≡ c.args.self.now.spare = ap (λ (x : Waiting). x.spare) c.self.view_is in
    omega (arith, v, c.requires.room)

pub invariant_of-self : goal.invariant_of-self
invariant_of-self c =
    let s = stored c.self.inside.links c.self.inside.buckets.items _ c.args.self.now c.self.invariant c.self.view_is in
    let e = c.insert_reserved-first.ensures in
    let p = put_alone c.self.inside.links c.insert_reserved-first.new.self c.self.inside.buckets.items c.insert.new.self.items c.args.w c.insert_reserved-first.result
    c.args.k c.args.self.now.held s c.requires.place c.requires.once e.was_vacant e.updates e.len c.insert.ensures.items in
    (_, p.1)

pub returns : goal.returns
returns c =
    let s = stored c.self.inside.links c.self.inside.buckets.items _ c.args.self.now c.self.invariant c.self.view_is in
    let e = c.insert_reserved-first.ensures in
    let p = put_alone c.self.inside.links c.insert_reserved-first.new.self c.self.inside.buckets.items c.insert.new.self.items c.args.w c.insert_reserved-first.result
    c.args.k c.args.self.now.held s c.requires.place c.requires.once e.was_vacant e.updates e.len c.insert.ensures.items in
    let v : spare_by c.self.inside.links c.self.inside.buckets.spare ≡ c.args.self.now.spare = ap (λ (x : Waiting). x.spare) c.self.view_is in
    let old = c.self.inside.links in
    let new = c.insert_reserved-first.new.self in
    let P : ℕ → Type 0 = λ n. n ≤ min (new.capacity - slab_len new) c.insert.new.self.spare + 1 in
    record {
      key = c.insert_reserved-first.result;
      free = p.0;
      held = seen _ _ _ p.1;
      spare = subst P v (spare_put old.capacity (slab_len old) c.self.inside.buckets.spare new.capacity (slab_len new) c.insert.new.self.spare e.capacity e.len
          (omega (arith, c.insert.ensures.spare)));
    }
