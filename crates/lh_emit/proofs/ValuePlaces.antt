-- Places without a value, and one that gets one.
use Rattle.std.proofs.Common.{◌≡◌, ◌<◌, ℕ, zero, suc, Bool, true, false, List, [], ◌∷◌, ◌++◌, length, get_or, Option, Some, None, refl, ap, sym, ◌∙◌}
use Rattle.std.specs.Prelude.{nat_eq, if◌then◌else◌, slice_set}
use Rattle.std.proofs.lemmas.List.{get_or-set_same, get_or-set_other}
use Rattle.lh_types.specs.Same.{nat_eq-refl, nat_eq-is}
use Rattle.lh_unit.specs.declared.inst.ValueId.{ValueId}

-- a place without a value is as none
pub none-more : (xs : List (Option ValueId)) (x : ℕ) → get_or (xs ++ None ∷ []) x None ≡ get_or xs x None
none-more [] zero = refl
none-more [] (suc x) = refl
none-more (y ∷ ys) zero = refl
none-more (y ∷ ys) (suc x) = none-more ys x

-- one place gets a value
pub kept : (old room : List (Option ValueId)) (t : ℕ) (v : ValueId) → t < length room → ((x : ℕ) → get_or room x None ≡ get_or old x None) →
    (x : ℕ) → get_or (slice_set room t (Some v)) x None ≡ (if nat_eq x t then Some v else get_or old x None)
kept old room t v h same x = at (nat_eq x t) refl
  where
    at : (b : Bool) → nat_eq x t ≡ b → get_or (slice_set room t (Some v)) x None ≡ (if b then Some v else get_or old x None)
    at true p =
        let e : x ≡ t = nat_eq-is x t p in
        ap (λ k. get_or (slice_set room t (Some v)) k None) e ∙ get_or-set_same room t (Some v) None h
    at false p = get_or-set_other room t x (Some v) None other ∙ same x
      where
        other : x ≡ t → ⊥
        other e = let q : nat_eq x t ≡ true = ap (nat_eq x) (sym e) ∙ nat_eq-refl x in absurd cc
