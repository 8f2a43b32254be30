use Rattle.std.proofs.Common.{◌≢◌, ◌⊎◌, inl, inr, ⊎_elim, ℕ, refl, sym, subst, ◌∙◌, ap, get_or, arith}
use Rattle.lh_time.specs.declared.Instant.{Instant}
use Rattle.lh_queue.specs.Queued.{QueuedWish, EachWithin, NoneCompetes, with_held}
use Rattle.lh_queue.proofs.KeptWishes.{more_within, more_apart, different_apart}
use Rattle.lh_library_trials.proofs.tests.queue_buckets.filled.Goals as goal

pub put-requires-clause-apart : goal.put-requires-clause-apart
put-requires-clause-apart c =
    let w = c.in_ok-wish.wish in
    let of = c.in_ok-wish.ensures.of in
    subst (NoneCompetes w) (sym c.in_ok-reserve.ensures.held) (c.loop-k.invariant.apart w (λ j r l.
    let D : Instant → ℕ → Type 0 = λ d i. (d ≢ (get_or c.args.rows.now j r).due) ⊎ (i ≢ (get_or c.args.rows.now j r).instance) in
    subst (λ d. D d w.instance) (sym of.0) (subst (D _) (sym of.1) (c.if-not-is_new.ensures refl j r _ l))))

pub loop-k-preserved : goal.loop-k-preserved
loop-k-preserved c =
    let a = c.put.ensures.adds in
    let x : QueuedWish = record { key = a.0; wish = c.in_ok-wish.wish } in
    let of = c.in_ok-wish.ensures.of in
    let e = sym (a.2 ∙ ap (λ held. with_held held x) c.in_ok-reserve.ensures.held) in
    record {
      within = subst (EachWithin 8) e (more_within 8 c.loop-k.queue.held x c.loop-k.invariant.within c.in_ok-wish.ensures.within);
      apart = λ w h. subst (NoneCompetes w) e (more_apart w c.loop-k.queue.held x
          (c.loop-k.invariant.apart w (λ j r l. h j r (omega (arith, l))))
          (different_apart w x.wish (⊎_elim (λ n. inl (λ p. n (p ∙ of.0))) (λ n. inr (inr (λ p. n (p ∙ of.1)))) (h c.loop-k.k _ (omega arith)))));
    }
