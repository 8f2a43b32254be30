use Rattle.std.proofs.Common.{ℕ, List, ◌+◌, get_or, refl, sym, ◌∙◌, subst, true≢false}
use Rattle.lh_kernel.proofs.ActivationMoves.{LeftOver, over_more, over_same, over_all}
use Rattle.lh_kernel.proofs.moves.without.Goals as goal
use Rattle.lh_kernel.proofs.moves.without.Goals.{then-not-has+in_ok-enter, else-not-has}

pub loop-number-preserved : goal.loop-number-preserved
loop-number-preserved c =
    let items = c.as_slice-number-items.result.now in
    let i = c.loop-number.number-index in
    let P : List ℕ → Type 0 = λ xs. LeftOver items c.args.those.now (i + 1) xs in
    elim c.if-not-has.branch [
      | then-not-has+in_ok-enter w ↦
          subst P (sym w.rest-is)
          (over_more items c.args.those.now i (get_or items i 0) c.loop-number-test.true refl c.loop-number.rest w.enter.new.self
          (λ h. true≢false (sym (c.has.ensures.1 h) ∙ w.if-not-has.true)) c.loop-number.invariant w.in_ok-enter.ensures.has)
      | else-not-has w ↦
          subst P (sym w.rest-is) (over_same items c.args.those.now i (get_or items i 0) c.loop-number-test.true refl c.loop-number.rest (c.has.ensures.0 w.if-not-has.false) c.loop-number.invariant)
    ]

pub returns : goal.returns
returns c = over_all c.as_slice-number-items.result.now c.args.these.now c.args.those.now c.loop-number.number-index c.loop-number.rest
    c.as_slice-number-items.ensures.same c.loop-number-test.false c.loop-number.invariant
