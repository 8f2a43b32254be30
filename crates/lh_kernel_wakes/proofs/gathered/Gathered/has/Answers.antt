use Rattle.std.proofs.Common.{subst, sym, ◌∙◌, true≢false}
use Rattle.lh_kernel_wakes.specs.Rising.{IsOneOf}
use Rattle.lh_kernel_wakes.proofs.GatheredNumbers.{has_left, in_either}
use Rattle.lh_kernel_wakes.proofs.gathered.Gathered.has.Goals as goal

pub returns-then-has : goal.returns-then-has
returns-then-has c = (λ e. subst (IsOneOf c.args.n) c.self.view_is (has_left c.args.n _ _ (c.has.ensures.0 c.if-has.true)), λ h. c.if-has.true)

pub returns-else-has : goal.returns-else-has
returns-else-has c =
    let r = in_either c.args.n _ _ _ c.self.view_is (λ h. true≢false (sym (c.has.ensures.1 h) ∙ c.if-has.false))
    in (λ e. r.0 (sym c.contains.ensures ∙ e), λ h. c.contains.ensures ∙ r.1 h)
