-- The plans of units by their ids.
use Rattle.std.proofs.Common.{◌≡◌, ℕ, zero, suc, ◌<◌, List, [], ◌∷◌, ◌++◌, length, set, get_or, Option, Some, None, refl, ap, sym, ◌∙◌, subst, get_or-set_same, get_or-set_other}
use Rattle.std.proofs.lemmas.Option.{same_Some}
use Rattle.lh_unit.specs.Arena.{Arena}
use Rattle.lh_unit.proofs.Lists.{Same, same, other, same_or}
use Rattle.lh_elab_plan.specs.declared.plan.Plan.{Plan}
use Rattle.lh_elab_plan.specs.Plans.{IsPlan}

-- one more unit that was not met
pub none-more : (ps : List (Option Plan)) (u : ℕ) → ((v : ℕ) → get_or ps v None ≡ None) → get_or (ps ++ None ∷ []) u None ≡ None
none-more [] zero h = refl
none-more [] (suc u) h = by u
  where
    by : (v : ℕ) → let none : List (Option Plan) = [] in get_or none v None ≡ None
    by zero = refl
    by (suc v) = refl
none-more (p ∷ ps) zero h = h 0
none-more (p ∷ ps) (suc u) h = none-more ps u (λ v. h (suc v))

pub none-right : (a : Arena) (ps : List (Option Plan)) → ((v : ℕ) → get_or ps v None ≡ None) → (u : ℕ) (x : Plan) → get_or ps u None ≡ Some x → IsPlan a u x
none-right a ps h u x e = let n = h u in absurd cc

-- the plan of one more unit
pub plan-more : (a : Arena) (ps : List (Option Plan)) (u : ℕ) (p : Plan) → u < length ps → ((v : ℕ) (x : Plan) → get_or ps v None ≡ Some x → IsPlan a v x) → IsPlan a u p → (v : ℕ) (x : Plan)
    → get_or (set ps u (Some p)) v None ≡ Some x → IsPlan a v x
plan-more a ps u p l r k v x e = by (same_or v u)
  where
    by : Same v u → IsPlan a v x
    by (same q) =
        let f : get_or (set ps u (Some p)) u None ≡ Some p = get_or-set_same ps u (Some p) None l in
        let g : Some p ≡ Some x = sym f ∙ ap (λ n. get_or (set ps u (Some p)) n None) (sym q) ∙ e in
        let z : p ≡ x = same_Some p x g in
        subst (λ (n : ℕ). IsPlan a n x) (sym q) (subst (IsPlan a u) z k)
    by (other q) = let f : get_or (set ps u (Some p)) v None ≡ get_or ps v None = get_or-set_other ps u v (Some p) None q in r v x (sym f ∙ e)
