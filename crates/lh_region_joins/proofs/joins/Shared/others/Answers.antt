use Rattle.std.proofs.Common.{List, take, get_or, ◌+◌, sym, ◌∙◌, subst}
use Rattle.std.proofs.lemmas.List.{take_more}
use Rattle.lh_term.specs.Arena.{AreIn}
use Rattle.lh_term.specs.declared.term.TermId.{TermId}
use Rattle.lh_region_joins.proofs.EdgeJoins.{no_id, OthersSoFar, OthersSoFar-skip, OthersSoFar-push, listed-in}
use Rattle.lh_region_joins.proofs.joins.Shared.others.Goals as goal
use Rattle.lh_region_joins.proofs.joins.Shared.others.Goals.{then-not-has+in_ok-push, else-not-has}

pub loop-conjunct-preserved : goal.loop-conjunct-preserved
loop-conjunct-preserved c =
    let items = c.as_slice-conjunct-items.result.now in let i = c.loop-conjunct.conjunct-index in
    let f = take_more items i no_id c.loop-conjunct-test.true in
    let is_in = listed-in c.args.terms.now items i no_id (subst (AreIn c.args.terms.now) (sym c.as_slice-conjunct-items.ensures) c.in_ok-conjuncts.ensures.within) c.loop-conjunct-test.true in
    elim c.if-not-has.branch [
      | then-not-has+in_ok-push w ↦ OthersSoFar-push _ _ _ _ _ _ (get_or items i no_id) f is_in w.if-not-has.ensures (w.others-is ∙ w.in_ok-push.ensures.ok) c.loop-conjunct.invariant
      | else-not-has w ↦ subst (λ (x : List TermId). OthersSoFar c.args.terms.now c.args.self.now x (take (i + 1) items)) (sym w.others-is)
          (OthersSoFar-skip _ _ _ _ _ (get_or items i no_id) f is_in w.if-not-has.ensures c.loop-conjunct.invariant)
    ]
