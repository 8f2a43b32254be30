use Rattle.std.proofs.Common.{◌≡◌, List, ◌∙◌, subst, ap, sym, refl, length, arith, true, false}
use Rattle.lh_queue.specs.Places.{starts_at}
use Rattle.lh_types.specs.History.{values_by}
use Rattle.lh_queue.specs.Holds.{entries, HoldsOn}
use Rattle.lh_queue.specs.Queued.{QueuedWish, Waiting}
use Rattle.lh_queue.proofs.Storage.{stored}
use Rattle.lh_queue.proofs.Among.{holds_on}
use Rattle.lh_queue.proofs.BitsHeld.{bits_held}
use Rattle.lh_bits.proofs.WrittenBits.{length-written}
use Rattle.lh_queue.proofs.TakenWishes.{order_step, due_step, within_step, left_step, bits_step, left_end, bits_end}
use Rattle.lh_queue.proofs.queue.Queue.take_due.Goals as goal

pub loop-self-init : goal.loop-self-init
loop-self-init c =
    let s = stored c.self.inside.links c.self.inside.buckets.items _ c.args.self.now c.self.invariant c.self.view_is in
    record { order = s.order; due = c.requires.due; within = c.requires.within; left = refl; spare = omega arith; bits = refl }

pub loop-self-preserved : goal.loop-self-preserved
loop-self-preserved c =
    let i = c.loop-self.invariant in
    let f = c.take_first-wish.ensures in
    let e = f.held.1 in
    let w = c.take_first-wish.result in
    let more = c.take_first-wish.new.self.held in
    let starts : starts_at c.args.at c.loop-self.self.held ≡ true = sym c.starts_at.ensures ∙ c.loop-self-test.true in
    let counted : length c.set.new.now ≡ length c.loop-self.now = ap length c.set.ensures ∙ length-written w.bits c.loop-self.now in
    record {
      order = order_step c.args.at c.loop-self.self.held more f.held.0 w e i.order;
      due = due_step c.args.at c.loop-self.self.held more f.held.0 w e i.due;
      within = within_step c.args.at c.loop-self.self.held more f.held.0 w e (length c.loop-self.now) (length c.set.new.now) counted i.within;
      left = left_step c.args.at c.loop-self.self.held more f.held.0 w e starts ∙ i.left;
      spare = omega (arith, f.spare, i.spare);
      bits = bits_step c.args.at c.loop-self.self.held more f.held.0 w e c.loop-self.now c.set.new.now i.order starts c.set.ensures ∙ i.bits;
    }

pub returns-clause-left : goal.returns-clause-left
returns-clause-left c =
    let i = c.loop-self.invariant in
    let starts : starts_at c.args.at c.loop-self.self.held ≡ false = sym c.starts_at.ensures ∙ c.loop-self-test.false in
    ap (λ (x : Waiting). x.held) c.self-2.view_is ∙ left_end c.args.at c.loop-self.self.held i.order i.due starts ∙ i.left

pub returns-clause-bits : goal.returns-clause-bits
returns-clause-bits c =
    let i = c.loop-self.invariant in
    let starts : starts_at c.args.at c.loop-self.self.held ≡ false = sym c.starts_at.ensures ∙ c.loop-self-test.false in
    bits_end c.args.at c.loop-self.self.held c.loop-self.now i.order i.due starts ∙ i.bits

pub returns-clause-values : goal.returns-clause-values
returns-clause-values c =
    let s = stored c.self.inside.links c.self.inside.buckets.items _ c.args.self.now c.self.invariant c.self.view_is in
    let i = c.loop-self.invariant in
    let starts : starts_at c.args.at c.loop-self.self.held ≡ false = sym c.starts_at.ensures ∙ c.loop-self-test.false in
    let bits : c.loop-self.now ≡ values_by (entries c.args.self.now.held) c.args.at 0 c.args.now.now = bits_end c.args.at c.loop-self.self.held c.loop-self.now i.order i.due starts ∙ i.bits in
    bits_held c.args.self.now.held c.args.now.now c.args.at c.loop-self.now s.order s.once bits

pub returns-clause-holds : goal.returns-clause-holds
returns-clause-holds c =
    let i = c.loop-self.invariant in
    let starts : starts_at c.args.at c.loop-self.self.held ≡ false = sym c.starts_at.ensures ∙ c.loop-self-test.false in
    subst (λ (held : List QueuedWish). HoldsOn c.args.self.now.held c.args.at held) (sym (ap (λ (x : Waiting). x.held) c.self-2.view_is))
    (holds_on c.args.self.now.held c.loop-self.self.held c.args.at (left_end c.args.at c.loop-self.self.held i.order i.due starts ∙ i.left))
