use Rattle.std.proofs.Common.{◌≡◌, ◌≤◌, ◌+◌, ◌∙◌, ap, arith, refl, subst, Some, is_some, ◌-◌, min, ℕ}
use Rattle.slab.specs.Slab.{slab_len, with_value}
use Rattle.lh_queue.specs.Queued.{Waiting}
use Rattle.lh_queue.specs.declared.queue.Linked.{Linked}
use Rattle.lh_queue.specs.Stored.{spare_by}
use Rattle.lh_queue.proofs.Storage.{stored, seen}
use Rattle.lh_queue.proofs.PutPlaces.{near_there, put_after, spare_put, count_set}
use Rattle.lh_queue.proofs.queue.Queue.put_after.Goals as goal

pub index-requires : goal.index-requires
index-requires c =
    let s = stored c.self.inside.links c.self.inside.buckets.items _ c.args.self.now c.self.invariant c.self.view_is in
    near_there c.self.inside.links c.self.inside.buckets.items c.args.w c.args.walk.to c.args.self.now.held s c.requires.place

pub invariant_of-self : goal.invariant_of-self
invariant_of-self c =
    let s = stored c.self.inside.links c.self.inside.buckets.items _ c.args.self.now c.self.invariant c.self.view_is in
    let e = c.insert_reserved-key.ensures in
    let p = put_after c.self.inside.links c.insert_reserved-key.new.self c.self.inside.buckets.items _ c.args.w c.insert_reserved-key.result c.args.walk.to c.args.self.now.held
    c.index.result.now c.index_mut.result.now s c.requires.place c.requires.once e.was_vacant c.index.ensures e.updates e.len c.index_mut.ensures.value refl in
    (_, p.1)

pub returns : goal.returns
returns c =
    let s = stored c.self.inside.links c.self.inside.buckets.items _ c.args.self.now c.self.invariant c.self.view_is in
    let e = c.insert_reserved-key.ensures in
    let p = put_after c.self.inside.links c.insert_reserved-key.new.self c.self.inside.buckets.items _ c.args.w c.insert_reserved-key.result c.args.walk.to c.args.self.now.held
    c.index.result.now c.index_mut.result.now s c.requires.place c.requires.once e.was_vacant c.index.ensures e.updates e.len c.index_mut.ensures.value refl in
    let v : spare_by c.self.inside.links c.self.inside.buckets.spare ≡ c.args.self.now.spare = ap (λ (x : Waiting). x.spare) c.self.view_is in
    let old = c.self.inside.links in
    let put = c.insert_reserved-key.new.self in
    let near : Linked = record { wish = c.index_mut.result.now.wish; next = Some c.insert_reserved-key.result } in
    let new = with_value put c.args.walk.to near in
    let spare = c.self.inside.buckets.spare in
    let len : slab_len new ≡ slab_len old + 1 = count_set put.slots c.args.walk.to near (ap is_some c.index_mut.ensures.value) ∙ e.len in
    let P : ℕ → Type 0 = λ n. n ≤ min (put.capacity - slab_len new) spare + 1 in
    record {
      key = c.insert_reserved-key.result;
      free = p.0;
      held = seen _ _ _ p.1;
      spare = subst P v (spare_put old.capacity (slab_len old) spare put.capacity (slab_len new) spare e.capacity len (omega arith));
    }
