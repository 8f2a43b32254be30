use Rattle.std.proofs.Common.{ℕ, List, length, ◌∙◌, ap, sym, subst}
use Rattle.lh_queue.proofs.TakenWishes.{within_at}
use Rattle.lh_kernel.specs.Touched.{first_in}
use Rattle.lh_kernel.proofs.WishedSignals.{TouchedTo, touched_none, touched_more, touched_less, touched_end, touched_gone, touched_late}
use Rattle.lh_kernel.proofs.touched.gathered_at.Goals as goal

pub loop-key-init : goal.loop-key-init
loop-key-init c =
    let P : List ℕ → Type 0 = λ xs. TouchedTo c.args.design.now.signals.items (length c.args.design.now.init) c.args.queue.now.held c.args.at xs c.first_in-key.result in
    subst P (sym c.new-touched.ensures) (touched_none c.args.design.now.signals.items (length c.args.design.now.init) c.args.queue.now.held c.args.at
    c.first_in-key.result (c.first_in-key.ensures ∙ ap first_in c.buckets.ensures.list))

pub returns-in_default-wish : goal.returns-in_default-wish
returns-in_default-wish c =
    touched_gone c.args.design.now.signals.items (length c.args.design.now.init) c.args.queue.now.held c.args.at c.loop-key.touched c.loop-key.key
    c.in-Some.k c.in-Some.is (sym c.in_default-wish.ensures) c.loop-key.invariant

pub returns-then-not-is_due : goal.returns-then-not-is_due
returns-then-not-is_due c =
    touched_late c.args.design.now.signals.items (length c.args.design.now.init) c.args.queue.now.held c.args.at c.loop-key.touched c.loop-key.key
    c.in-Some.k c.in-Some-wish.wish.now c.buckets.ensures.order c.buckets.ensures.keys c.requires.due c.in-Some.is
    (sym c.in-Some-wish.ensures) (sym c.is_due.ensures ∙ c.if-not-is_due.true) c.loop-key.invariant

pub touch_written-requires-clause-within : goal.touch_written-requires-clause-within
touch_written-requires-clause-within c = within_at (length c.args.design.now.init) c.args.queue.now.held c.in-Some.k c.in-Some-wish.wish.now c.requires.within (sym c.in-Some-wish.ensures)

pub loop-key-smaller : goal.loop-key-smaller
loop-key-smaller c =
    touched_less c.args.design.now.signals.items (length c.args.design.now.init) c.args.queue.now.held c.args.at c.in-Some.k c.in-Some-wish.wish.now
    c.loop-key.key c.next_key-key.result c.buckets.ensures.order c.buckets.ensures.keys (sym c.in-Some-wish.ensures)
    (sym c.is_due.ensures ∙ c.if-not-is_due.false) c.in-Some.is c.next_key-key.ensures

pub loop-key-preserved : goal.loop-key-preserved
loop-key-preserved c =
    touched_more c.args.design.now.signals.items (length c.args.design.now.init) c.args.queue.now.held c.args.at c.in-Some.k c.in-Some-wish.wish.now
    c.loop-key.key c.next_key-key.result c.loop-key.touched c.touch_written.new.touched c.buckets.ensures.order
    c.buckets.ensures.keys (sym c.in-Some-wish.ensures) (sym c.is_due.ensures ∙ c.if-not-is_due.false) c.in-Some.is c.next_key-key.ensures c.in_ok-touch_written.ensures c.loop-key.invariant

pub returns : goal.returns
returns c = touched_end c.args.design.now.signals.items (length c.args.design.now.init) c.args.queue.now.held c.args.at c.loop-key.touched c.loop-key.key c.in_default.is c.loop-key.invariant
