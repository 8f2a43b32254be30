use Rattle.std.proofs.Common.{◌≡◌, ◌∙◌, ap, sym, refl, length, subst, ℕ, ◌<◌, Option, []}
use Rattle.lh_types.specs.History.{values_by}
use Rattle.lh_queue.specs.Queued.{EachWithin}
use Rattle.lh_queue.specs.Holds.{entries}
use Rattle.lh_queue.specs.Places.{rest_from}
use Rattle.lh_queue.specs.Buckets.{next_in}
use Rattle.lh_queue.proofs.Storage.{stored}
use Rattle.lh_queue.proofs.BitsHeld.{bits_held}
use Rattle.lh_bits.proofs.WrittenBits.{length-written}
use Rattle.lh_queue.proofs.TakenWishes.{rest_first, rest_none, within_at, looked, looked_end, looked_none}
use Rattle.lh_queue.proofs.queue.Queue.look_due.Goals as goal

pub returns-in_default-wish-clause-bits : goal.returns-in_default-wish-clause-bits
returns-in_default-wish-clause-bits c =
    let i = c.loop-key.invariant in
    let none : rest_from c.args.self.now.held c.loop-key.key ≡ [] = ap (rest_from c.args.self.now.held) c.in-Some.is ∙ rest_none c.args.self.now.held c.in-Some.k (sym c.in_default-wish.ensures) in
    looked_none c.args.at c.loop-key.now ∙ ap (λ xs. values_by (entries xs) c.args.at 0 c.loop-key.now) (sym none) ∙ i.bits

pub returns-in_default-wish-clause-values : goal.returns-in_default-wish-clause-values
returns-in_default-wish-clause-values c =
    let s = stored c.self.inside.links c.self.inside.buckets.items _ c.args.self.now c.self.invariant c.self.view_is in
    let i = c.loop-key.invariant in
    let none : rest_from c.args.self.now.held c.loop-key.key ≡ [] = ap (rest_from c.args.self.now.held) c.in-Some.is ∙ rest_none c.args.self.now.held c.in-Some.k (sym c.in_default-wish.ensures) in
    bits_held c.args.self.now.held c.args.now.now c.args.at c.loop-key.now s.order s.once
    (looked_none c.args.at c.loop-key.now ∙ ap (λ xs. values_by (entries xs) c.args.at 0 c.loop-key.now) (sym none) ∙ i.bits)

pub returns-then-not-is_due-clause-bits : goal.returns-then-not-is_due-clause-bits
returns-then-not-is_due-clause-bits c =
    let s = stored c.self.inside.links c.self.inside.buckets.items _ c.args.self.now c.self.invariant c.self.view_is in
    let i = c.loop-key.invariant in
    looked_end c.args.self.now.held c.in-Some.k c.in-Some-wish.wish.now c.args.at c.loop-key.now s.order s.keys c.requires.due (sym c.in-Some-wish.ensures)
    (sym c.is_due.ensures ∙ c.if-not-is_due.true)
    ∙ ap (λ k. values_by (entries (rest_from c.args.self.now.held k)) c.args.at 0 c.loop-key.now) (sym c.in-Some.is) ∙ i.bits

pub returns-then-not-is_due-clause-values : goal.returns-then-not-is_due-clause-values
returns-then-not-is_due-clause-values c =
    let s = stored c.self.inside.links c.self.inside.buckets.items _ c.args.self.now c.self.invariant c.self.view_is in
    let i = c.loop-key.invariant in
    bits_held c.args.self.now.held c.args.now.now c.args.at c.loop-key.now s.order s.once
    (looked_end c.args.self.now.held c.in-Some.k c.in-Some-wish.wish.now c.args.at c.loop-key.now s.order s.keys c.requires.due (sym c.in-Some-wish.ensures)
    (sym c.is_due.ensures ∙ c.if-not-is_due.true)
    ∙ ap (λ k. values_by (entries (rest_from c.args.self.now.held k)) c.args.at 0 c.loop-key.now) (sym c.in-Some.is) ∙ i.bits)

pub set-requires : goal.set-requires
set-requires c =
    let P : ℕ → Type 0 = λ n. EachWithin n c.args.self.now.held in
    within_at (length c.loop-key.now) c.args.self.now.held c.in-Some.k c.in-Some-wish.wish.now (subst P (sym c.loop-key.invariant.counted) c.requires.within) (sym c.in-Some-wish.ensures)

pub loop-key-smaller : goal.loop-key-smaller
loop-key-smaller c =
    let s = stored c.self.inside.links c.self.inside.buckets.items _ c.args.self.now c.self.invariant c.self.view_is in
    let l = looked c.args.self.now.held c.in-Some.k c.in-Some-wish.wish.now c.args.at c.loop-key.now c.set.new.now s.order s.keys (sym c.in-Some-wish.ensures)
    (sym c.is_due.ensures ∙ c.if-not-is_due.false) c.set.ensures in
    let P : Option ℕ → Type 0 = λ k. length (rest_from c.args.self.now.held k) < length (rest_from c.args.self.now.held c.loop-key.key) in
    let Q : Option ℕ → Type 0 = λ k. length (rest_from c.args.self.now.held (next_in c.args.self.now.held c.in-Some.k)) < length (rest_from c.args.self.now.held k) in
    subst P (sym c.next_key-key.ensures) (subst Q (sym c.in-Some.is) l.less)

pub loop-key-preserved : goal.loop-key-preserved
loop-key-preserved c =
    let s = stored c.self.inside.links c.self.inside.buckets.items _ c.args.self.now c.self.invariant c.self.view_is in
    let i = c.loop-key.invariant in
    let l = looked c.args.self.now.held c.in-Some.k c.in-Some-wish.wish.now c.args.at c.loop-key.now c.set.new.now s.order s.keys (sym c.in-Some-wish.ensures)
    (sym c.is_due.ensures ∙ c.if-not-is_due.false) c.set.ensures in
    record {
      counted = ap length c.set.ensures ∙ length-written c.in-Some-wish.wish.now.bits c.loop-key.now ∙ i.counted;
      bits = ap (λ k. values_by (entries (rest_from c.args.self.now.held k)) c.args.at 0 c.set.new.now) c.next_key-key.ensures ∙ l.bits
          ∙ ap (λ k. values_by (entries (rest_from c.args.self.now.held k)) c.args.at 0 c.loop-key.now) (sym c.in-Some.is) ∙ i.bits;
    }

pub loop-key-init : goal.loop-key-init
loop-key-init c = record {
  counted = refl;
  bits = ap (λ k. values_by (entries (rest_from c.args.self.now.held k)) c.args.at 0 c.args.now.now) c.first_key-key.ensures
      ∙ ap (λ xs. values_by (entries xs) c.args.at 0 c.args.now.now) (rest_first c.args.self.now.held);
}

pub returns-clause-bits : goal.returns-clause-bits
returns-clause-bits c =
    let i = c.loop-key.invariant in
    looked_none c.args.at c.loop-key.now ∙ ap (λ k. values_by (entries (rest_from c.args.self.now.held k)) c.args.at 0 c.loop-key.now) (sym c.in_default.is) ∙ i.bits

pub returns-clause-values : goal.returns-clause-values
returns-clause-values c =
    let s = stored c.self.inside.links c.self.inside.buckets.items _ c.args.self.now c.self.invariant c.self.view_is in
    let i = c.loop-key.invariant in
    bits_held c.args.self.now.held c.args.now.now c.args.at c.loop-key.now s.order s.once
    (looked_none c.args.at c.loop-key.now ∙ ap (λ k. values_by (entries (rest_from c.args.self.now.held k)) c.args.at 0 c.loop-key.now) (sym c.in_default.is) ∙ i.bits)
