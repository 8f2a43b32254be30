use Rattle.std.proofs.Common.{ℕ, List, ◌∷◌, suc, ◌+◌, ◌≡◌, drop, ap, ◌∙◌, sym, subst, get_or, arith, rules}
use Rattle.std.proofs.Math.Seq.{drop-cons}
use Rattle.std.proofs.lemmas.List.{drop_all}
use Rattle.lh_kernel_wakes.proofs.GatheredNumbers.{AreTogether, set_more, together_both, together_more, together_all, one_and_all}
use Rattle.lh_kernel_wakes.proofs.gathered.Gathered.into_rising.Goals as goal

pub loop-n-init : goal.loop-n-init
loop-n-init c = subst (λ (z : List ℕ). AreTogether c.self.inside.late.keys z c.args.self) (sym c.as_slice-n-items.ensures.same) (together_both _ _ _ c.self.view_is)

pub loop-n-preserved : goal.loop-n-preserved
loop-n-preserved c =
    let items = c.as_slice-n-items.result.now in
    let i = c.loop-n.n-index in
    let next : suc i ≡ i + 1 = omega arith in
    together_more _ _ _ _ _ (get_or items i 0) (drop-cons items i 0 c.loop-n-test.true ∙ ap (λ (m : ℕ). get_or items i 0 ∷ drop m items) next) (set_more _ _ (get_or items i 0) c.in_ok-insert.ensures.updates.0) c.loop-n.invariant

pub returns : goal.returns
returns c =
    one_and_all _ _ _ c.in_ok-all.ensures (together_all _ _ _ (drop_all c.loop-n.n-index c.as_slice-n-items.result.now (search rules)) c.loop-n.invariant)
