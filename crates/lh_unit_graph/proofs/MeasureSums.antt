-- The measure of units beside each other, and of a unit with others below it.
use Rattle.std.proofs.Common.{◌≡◌, ℕ, zero, suc, ◌+◌, List, [], ◌∷◌, ◌++◌, map, Option, Some, None, refl, ap, sym, ◌∙◌, subst, arith, append_assoc}
use Rattle.std.proofs.Math.Logic.{∥∥₁_elim, ∥∥₁_map, ∥∥₁_prop}
use Rattle.std.specs.Option.{option_map}
use Rattle.std.proofs.lemmas.Option.{same_Some}
use Rattle.std.proofs.lemmas.List.{append-nil}
use Rattle.lh_unit.specs.declared.inst.UnitId.{UnitId}
use Rattle.lh_unit_graph.specs.Measures.{Measuring, node_at, targets_at, all_beside, measure_in, IsMeasure}

module _ {N M : Type 0} (C : Measuring N M) where
  -- where one function answers as another does, so do their sums
  all-same : (F G : UnitId → Option M) → ((t : UnitId) (n : M) → F t ≡ Some n → G t ≡ Some n) → (m : M) (ts : List UnitId) (s : M)
      → all_beside C m (map F ts) ≡ Some s
      → all_beside C m (map G ts) ≡ Some s
  all-same F G h m [] s e = e
  all-same F G h m (t ∷ ts) s e = by (F t) refl (λ n. all-same F G h (C.beside m n) ts s) e
    where
      by : (o : Option M) → F t ≡ o → ((n : M) → all_beside C (C.beside m n) (map F ts) ≡ Some s → all_beside C (C.beside m n) (map G ts) ≡ Some s)
          → all_beside C m (o ∷ map F ts) ≡ Some s → all_beside C m (G t ∷ map G ts) ≡ Some s
      by None q more e = cc
      by (Some n) q more e = ap (λ o. all_beside C m (o ∷ map G ts)) (h t n q) ∙ more n e

  all-push : (F : UnitId → Option M) (m : M) (ts : List UnitId) (t : UnitId) (s n : M) → all_beside C m (map F ts) ≡ Some s → F t ≡ Some n
      → all_beside C m (map F (ts ++ t ∷ [])) ≡ Some (C.beside s n)
  all-push F m [] t s n e q = ap (λ o. all_beside C m (o ∷ [])) q ∙ ap (λ x. Some (C.beside x n)) (same_Some m s e)
  all-push F m (x ∷ ts) t s n e q = by (F x) refl (λ y h. all-push F (C.beside m y) ts t s n h q) e
    where
      by : (o : Option M) → F x ≡ o
          → ((y : M) → all_beside C (C.beside m y) (map F ts) ≡ Some s → all_beside C (C.beside m y) (map F (ts ++ t ∷ [])) ≡ Some (C.beside s n))
          → all_beside C m (o ∷ map F ts) ≡ Some s → all_beside C m (F x ∷ map F (ts ++ t ∷ [])) ≡ Some (C.beside s n)
      by None r more e = cc
      by (Some y) r more e = ap (λ o. all_beside C m (o ∷ map F (ts ++ t ∷ []))) r ∙ more y e

  module _ (g : List N) where
    abbrev of_units : ℕ → UnitId → Option M
    of_units k t = measure_in C k g t.0

    -- the measure of these units beside each other
    abbrev pub IsSum : List UnitId → M → Type 0
    IsSum ts m = ∥ ((k : ℕ) × (all_beside C C.nothing (map (of_units k) ts) ≡ Some m)) ∥₁

    -- more steps give no other measure
    measure-next : (k u : ℕ) (m : M) → measure_in C k g u ≡ Some m → measure_in C (suc k) g u ≡ Some m
    measure-next zero u m e = cc
    measure-next (suc k) u m e =
        by (all_beside C C.nothing (map (of_units k) (targets_at C g u))) refl
        (λ s. all-same (of_units k) (of_units (suc k)) (λ t n. measure-next k t.0 n) C.nothing (targets_at C g u) s) e
      where
        by : (o : Option M) → all_beside C C.nothing (map (of_units k) (targets_at C g u)) ≡ o
            → ((s : M) → all_beside C C.nothing (map (of_units k) (targets_at C g u)) ≡ Some s
            → all_beside C C.nothing (map (of_units (suc k)) (targets_at C g u)) ≡ Some s)
            → option_map (λ x. C.around x (node_at C g u)) o ≡ Some m → measure_in C (suc (suc k)) g u ≡ Some m
        by None q more e = cc
        by (Some s) q more e = ap (option_map (λ x. C.around x (node_at C g u))) (more s q) ∙ e

    measure-later : (j k i u : ℕ) (m : M) → i ≡ j + k → measure_in C k g u ≡ Some m → measure_in C i g u ≡ Some m
    measure-later zero k i u m q e = subst (λ n. measure_in C n g u ≡ Some m) (same k i q) e
      where
        same : (k i : ℕ) → i ≡ 0 + k → k ≡ i
        same k i q = omega arith
    measure-later (suc j) k i u m q e =
        subst (λ n. measure_in C n g u ≡ Some m) (one_more j k i q) (measure-next (j + k) u m (measure-later j k (j + k) u m refl e))
      where
        one_more : (j k i : ℕ) → i ≡ suc j + k → suc (j + k) ≡ i
        one_more j k i q = omega arith

    pub IsSum-none : IsSum [] C.nothing
    IsSum-none = ∣ (0, refl) ∣₁

    turned : (j k : ℕ) → k + j ≡ j + k
    turned j k = omega arith

    pub IsSum-beside : (ts : List UnitId) (t : UnitId) (m n : M) → IsSum ts m → IsMeasure C g t.0 n → IsSum (ts ++ t ∷ []) (C.beside m n)
    IsSum-beside ts t m n p q = ∥∥₁_elim p ∥∥₁_prop (λ x. ∥∥₁_map q (λ y. (
      y.0 + x.0,
      all-push (of_units (y.0 + x.0)) C.nothing ts t m n
          (all-same (of_units x.0) (of_units (y.0 + x.0)) (λ v w. measure-later y.0 x.0 (y.0 + x.0) v.0 w refl) C.nothing ts m x.1)
          (measure-later x.0 y.0 (y.0 + x.0) t.0 n (turned x.0 y.0) y.1),
    )))

    pub IsMeasure-around : (u : ℕ) (m : M) → IsSum (targets_at C g u) m → IsMeasure C g u (C.around m (node_at C g u))
    IsMeasure-around u m p = ∥∥₁_map p (λ x. (suc x.0, ap (option_map (λ y. C.around y (node_at C g u))) x.1))

    -- What holds of the measure of each unit, where it goes from units to others beside them, and to the node above them.
    module _ (P : ℕ → M → Type 0) (S : List UnitId → M → Type 0) (prop : (u : ℕ) (m : M) → IsProp (P u m)) (none : S [] C.nothing)
        (beside : (ts : List UnitId) (t : UnitId) (m n : M) → S ts m → P t.0 n → S (ts ++ t ∷ []) (C.beside m n))
        (around : (u : ℕ) (m : M) → S (targets_at C g u) m → P u (C.around m (node_at C g u))) where
      sum-holds : (k : ℕ) → ((t : UnitId) (n : M) → of_units k t ≡ Some n → P t.0 n) → (done ts : List UnitId) (m s : M) → S done m
          → all_beside C m (map (of_units k) ts) ≡ Some s → S (done ++ ts) s
      sum-holds k h done [] m s p e = subst (λ xs. S xs s) (sym (append-nil done)) (subst (S done) (same_Some m s e) p)
      sum-holds k h done (t ∷ ts) m s p e = by (of_units k t) refl (λ n. sum-holds k h (done ++ t ∷ []) ts (C.beside m n) s) e
        where
          by : (o : Option M) → of_units k t ≡ o
              → ((n : M) → S (done ++ t ∷ []) (C.beside m n) → all_beside C (C.beside m n) (map (of_units k) ts) ≡ Some s → S
              ((done ++ t ∷ []) ++ ts) s)
              → all_beside C m (o ∷ map (of_units k) ts) ≡ Some s → S (done ++ t ∷ ts) s
          by None q more e = cc
          by (Some n) q more e = subst (λ xs. S xs s) (append_assoc done (t ∷ []) ts) (more n (beside done t m n p (h t n q)) e)

      holds-in : (k u : ℕ) (m : M) → measure_in C k g u ≡ Some m → P u m
      holds-in zero u m e = cc
      holds-in (suc k) u m e =
          by (all_beside C C.nothing (map (of_units k) (targets_at C g u))) refl
          (λ s. sum-holds k (λ t n. holds-in k t.0 n) [] (targets_at C g u) C.nothing s none) e
        where
          by : (o : Option M) → all_beside C C.nothing (map (of_units k) (targets_at C g u)) ≡ o
              → ((s : M) → all_beside C C.nothing (map (of_units k) (targets_at C g u)) ≡ Some s → S (targets_at C g u) s)
              → option_map (λ x. C.around x (node_at C g u)) o ≡ Some m → P u m
          by None q more e = cc
          by (Some s) q more e = subst (P u) (same_Some (C.around s (node_at C g u)) m e) (around u s (more s q))

      pub measure-holds : (u : ℕ) (m : M) → IsMeasure C g u m → P u m
      measure-holds u m h = ∥∥₁_elim h (prop u m) (λ x. holds-in x.0 u m x.1)
