use Rattle.std.proofs.Common.{◌≡◌, ◌≤◌, ◌<◌, ◌+◌, ◌-◌, min, ap, refl, sym, arith, rules}
use Rattle.slab.specs.Slab.{Slab, slab_len}
use Rattle.lh_queue.specs.declared.queue.Linked.{Linked}
use Rattle.lh_queue.specs.Queued.{Waiting}
use Rattle.lh_queue.proofs.Storage.{stored, stored_same, seen}
use Rattle.lh_queue.proofs.queue.Queue.reserve.Goals as goal

pub invariant_of-self : goal.invariant_of-self
invariant_of-self c =
    let s = stored c.self.inside.links c.self.inside.buckets.items _ c.args.self.now c.self.invariant c.self.view_is in
    (c.args.self.now.held, stored_same c.self.inside.links c.reserve.new.self c.self.inside.buckets.items _ c.args.self.now.held s (ap (λ (x : Slab Linked). x.slots) c.reserve.ensures.rest_kept) refl)

pub returns-in_err-reserve-clause-held : goal.returns-in_err-reserve-clause-held
returns-in_err-reserve-clause-held c =
    let s = stored c.self.inside.links c.self.inside.buckets.items _ c.args.self.now c.self.invariant c.self.view_is in
    seen c.reserve.new.self _ c.args.self.now.held
    (stored_same c.self.inside.links c.reserve.new.self c.self.inside.buckets.items _ c.args.self.now.held s (ap (λ (x : Slab Linked). x.slots) c.reserve.ensures.rest_kept) refl)

pub invariant_of-self-in_err-reserve-2 : goal.invariant_of-self-in_err-reserve-2
invariant_of-self-in_err-reserve-2 c =
    let s = stored c.self.inside.links c.self.inside.buckets.items _ c.args.self.now c.self.invariant c.self.view_is in (
      c.args.self.now.held,
      stored_same c.self.inside.links c.reserve.new.self c.self.inside.buckets.items _ c.args.self.now.held s (ap (λ (x : Slab Linked). x.slots) c.reserve.ensures.rest_kept)
          c.reserve-2.ensures.items,
    )

pub returns-in_err-reserve-2-clause-held : goal.returns-in_err-reserve-2-clause-held
returns-in_err-reserve-2-clause-held c =
    let s = stored c.self.inside.links c.self.inside.buckets.items _ c.args.self.now c.self.invariant c.self.view_is in
    seen c.reserve.new.self _ c.args.self.now.held
    (stored_same c.self.inside.links c.reserve.new.self c.self.inside.buckets.items _ c.args.self.now.held s (ap (λ (x : Slab Linked). x.slots) c.reserve.ensures.rest_kept)
    c.reserve-2.ensures.items)

pub invariant_of-self-2 : goal.invariant_of-self-2
invariant_of-self-2 c =
    let s = stored c.self.inside.links c.self.inside.buckets.items _ c.args.self.now c.self.invariant c.self.view_is in (
      c.args.self.now.held,
      stored_same c.self.inside.links c.reserve.new.self c.self.inside.buckets.items _ c.args.self.now.held s (ap (λ (x : Slab Linked). x.slots) c.reserve.ensures.rest_kept)
          c.reserve-2.ensures.items,
    )

pub returns-clause-held : goal.returns-clause-held
returns-clause-held c =
    let s = stored c.self.inside.links c.self.inside.buckets.items _ c.args.self.now c.self.invariant c.self.view_is in
    seen c.reserve.new.self _ c.args.self.now.held
    (stored_same c.self.inside.links c.reserve.new.self c.self.inside.buckets.items _ c.args.self.now.held s (ap (λ (x : Slab Linked). x.slots) c.reserve.ensures.rest_kept)
    c.reserve-2.ensures.items)

pub returns-in_err-reserve-clause-full : goal.returns-in_err-reserve-clause-full
returns-in_err-reserve-clause-full c =
    let e : c.args.self.now.spare ≡ min (c.self.inside.links.capacity - slab_len c.self.inside.links) c.self.inside.buckets.spare =
    sym (ap (λ (w : Waiting). w.spare) c.self.view_is) in
    let n : slab_len c.self.inside.links + c.args.n ≤ c.self.inside.links.capacity → ⊥ = λ h. search (rules, c.in_err-reserve.ensures.succeeds h) in
    let full : c.args.self.now.spare < c.args.n = omega (arith, e, n, c.capacity.ensures.holds_all) in
    search (rules, full)
