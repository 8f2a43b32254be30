-- The list of the instances that wake, by what it has.
use Rattle.std.proofs.Common.{arith, ◌≡◌, ℕ, zero, suc, ◌+◌, ◌<◌, List, [], ◌∷◌, length, Bool, true, false, if◌then◌else◌, Some, None, refl, ap, sym, ◌∙◌, subst, inl, inr}
use Rattle.std.specs.Prelude.{◌↔◌, slice_get}
use Rattle.lh_unit.specs.Arena.{Arena}
use Rattle.lh_unit.specs.World.{Moment}
use Rattle.lh_eval.specs.declared.instance.Instance.{Instance}
use Rattle.lh_kernel_wakes.specs.Rising.{IsOneOf, AreAbove, IsRising}
use Rattle.lh_kernel_wakes.proofs.Places.{has_above}
use Rattle.lh_kernel_states.specs.declared.state.InstState.{InstState}
use Rattle.lh_kernel.specs.Woken.{awakes, awake_from}

-- the instance of this number wakes
pub record AwakeAt (a : Arena) (m : Moment) (is : List Instance) (ss : List InstState) (j : ℕ) : Type 0 where
  pub instance : Instance
  pub state : InstState
  pub is_one : slice_get is j ≡ Some instance
  pub is_kept : slice_get ss j ≡ Some state
  pub awakes : awakes a m instance state ≡ true

same_instance : (i j : Instance) → Some i ≡ Some j → i ≡ j
same_instance i j e = cc

same_state : (i j : InstState) → Some i ≡ Some j → i ≡ j
same_state i j e = cc

module _ (a : Arena) (m : Moment) where
  -- the list has exactly those that wake
  pub record Later (is : List Instance) (ss : List InstState) (k n : ℕ) : Type 0 where
    pub place : ℕ
    pub number : n ≡ k + place
    pub awake : AwakeAt a m is ss place

  one_later : (i : Instance) (is : List Instance) (s : InstState) (ss : List InstState) (k n : ℕ) → Later is ss (k + 1) n → Later (i ∷ is) (s ∷ ss) k n
  one_later i is s ss k n l = record {
    place = suc l.place;
    number = omega (arith, l.number);
    awake = record { instance = l.awake.instance; state = l.awake.state; is_one = l.awake.is_one; is_kept = l.awake.is_kept; awakes = l.awake.awakes };
  }

  pub has_awake : (is : List Instance) (ss : List InstState) (k n : ℕ) → IsOneOf n (awake_from k a m is ss) → Later is ss k n
  has_awake [] ss k n h = absurd h
  has_awake (i ∷ is) [] k n h = absurd h
  has_awake (i ∷ is) (s ∷ ss) k n h = at (awakes a m i s) refl h (has_awake is ss (k + 1) n)
    where
      at : (b : Bool) → awakes a m i s ≡ b → IsOneOf n (if b then k ∷ awake_from (k + 1) a m is ss else awake_from (k + 1) a m is ss) →
          (IsOneOf n (awake_from (k + 1) a m is ss) → Later is ss (k + 1) n) → Later (i ∷ is) (s ∷ ss) k n
      at true e (inl p) ih = record { place = 0; number = omega (arith, p); awake = record { instance = i; state = s; is_one = refl; is_kept = refl; awakes = e } }
      at true e (inr g) ih = one_later i is s ss k n (ih g)
      at false e g ih = one_later i is s ss k n (ih g)

  pub awake_has : (is : List Instance) (ss : List InstState) (k j : ℕ) → AwakeAt a m is ss j → IsOneOf (k + j) (awake_from k a m is ss)
  awake_has [] ss k zero w = absurd (none w.instance w.is_one)
    where
      none : (i : Instance) → None ≡ Some i → ⊥
      none i e = cc
  awake_has [] ss k (suc j) w = absurd (none w.instance w.is_one)
    where
      none : (i : Instance) → None ≡ Some i → ⊥
      none i e = cc
  awake_has (i ∷ is) [] k zero w = absurd (none w.state w.is_kept)
    where
      none : (s : InstState) → None ≡ Some s → ⊥
      none s e = cc
  awake_has (i ∷ is) [] k (suc j) w = absurd (none w.state w.is_kept)
    where
      none : (s : InstState) → None ≡ Some s → ⊥
      none s e = cc
  awake_has (i ∷ is) (s ∷ ss) k zero w =
      let e : awakes a m i s ≡ true =
      ap (λ (x : Instance). awakes a m x s) (same_instance i w.instance w.is_one) ∙ ap (λ (x : InstState). awakes a m w.instance x) (same_state s w.state w.is_kept) ∙ w.awakes in
      let P : Bool → Type 0 = λ b. IsOneOf (k + 0) (if b then k ∷ awake_from (k + 1) a m is ss else awake_from (k + 1) a m is ss) in
      subst P (sym e) (inl (omega arith))
  awake_has (i ∷ is) (s ∷ ss) k (suc j) w =
      let r : IsOneOf (k + 1 + j) (awake_from (k + 1) a m is ss) =
      awake_has is ss (k + 1) j (record { instance = w.instance; state = w.state; is_one = w.is_one; is_kept = w.is_kept; awakes = w.awakes }) in
      let q : k + 1 + j ≡ k + suc j = omega arith in
      let Q : ℕ → Type 0 = λ n. IsOneOf n (awake_from (k + 1) a m is ss) in
      either (awakes a m i s) (subst Q q r)
    where
      either : (b : Bool) → IsOneOf (k + suc j) (awake_from (k + 1) a m is ss) → IsOneOf (k + suc j) (if b then k ∷ awake_from (k + 1) a m is ss else awake_from (k + 1) a m is ss)
      either true h = inr h
      either false h = h

  -- the numbers rise, and are numbers of instances
  above_each : (k : ℕ) (xs : List ℕ) → ((n : ℕ) → IsOneOf n xs → k < n) → AreAbove k xs
  above_each k [] h = tt
  above_each k (x ∷ xs) h = (h x (inl refl), above_each k xs (λ n g. h n (inr g)))

  pub awake_rises : (is : List Instance) (ss : List InstState) (k : ℕ) → IsRising (awake_from k a m is ss)
  awake_rises [] ss k = tt
  awake_rises (i ∷ is) [] k = tt
  awake_rises (i ∷ is) (s ∷ ss) k = at (awakes a m i s) (awake_rises is ss (k + 1))
    where
      at : (b : Bool) → IsRising (awake_from (k + 1) a m is ss) → IsRising (if b then k ∷ awake_from (k + 1) a m is ss else awake_from (k + 1) a m is ss)
      at true r = (above_each k (awake_from (k + 1) a m is ss) (λ n h. let l = has_awake is ss (k + 1) n h in omega (arith, l.number)), r)
      at false r = r

  pub awake_known : (is : List Instance) (ss : List InstState) (k n : ℕ) → IsOneOf n (awake_from k a m is ss) → n < k + length is
  awake_known [] ss k n h = absurd h
  awake_known (i ∷ is) [] k n h = absurd h
  awake_known (i ∷ is) (s ∷ ss) k n h = at (awakes a m i s) h (awake_known is ss (k + 1) n)
    where
      at : (b : Bool) → IsOneOf n (if b then k ∷ awake_from (k + 1) a m is ss else awake_from (k + 1) a m is ss) →
          (IsOneOf n (awake_from (k + 1) a m is ss) → n < k + 1 + length is) → n < k + suc (length is)
      at true (inl p) ih = omega (arith, p)
      at true (inr g) ih = let r : n < k + 1 + length is = ih g in omega arith
      at false g ih = let r : n < k + 1 + length is = ih g in omega arith

-- rising lists that have the same are the same
least : (x y : ℕ) (xs ys : List ℕ) → AreAbove y ys → IsOneOf x (y ∷ ys) → AreAbove x xs → IsOneOf y (x ∷ xs) → x ≡ y
least x y xs ys b (inl p) a h = sym p
least x y xs ys b (inr g) a (inl p) = p
least x y xs ys b (inr g) a (inr h) = let l : x < y = has_above x y xs a h in let m : y < x = has_above y x ys b g in omega arith

rest : (x n : ℕ) (xs ys : List ℕ) → AreAbove x xs → IsOneOf n xs → IsOneOf n (x ∷ ys) → IsOneOf n ys
rest x n xs ys a h (inl p) = let l : x < n = has_above x n xs a h in absurd (omega arith)
rest x n xs ys a h (inr g) = g

pub rising_same : (xs ys : List ℕ) → IsRising xs → IsRising ys → ((k : ℕ) → IsOneOf k xs ↔ IsOneOf k ys) → xs ≡ ys
rising_same [] [] r q h = refl
rising_same [] (y ∷ ys) r q h = absurd ((h y).1 (inl refl))
rising_same (x ∷ xs) [] r q h = absurd ((h x).0 (inl refl))
rising_same (x ∷ xs) (y ∷ ys) r q h =
    let e : x ≡ y = least x y xs ys q.0 ((h x).0 (inl refl)) r.0 ((h y).1 (inl refl)) in
    let P : ℕ → Type 0 = λ z. AreAbove z ys in
    let b : AreAbove x ys = subst P (sym e) q.0 in
    let Q : ℕ → Type 0 = λ z. (k : ℕ) → IsOneOf k (x ∷ xs) ↔ IsOneOf k (z ∷ ys) in
    let g : (k : ℕ) → IsOneOf k (x ∷ xs) ↔ IsOneOf k (x ∷ ys) = subst Q (sym e) h in
    let t : xs ≡ ys = rising_same xs ys r.1 q.1 (λ k. (λ m. rest x k xs ys r.0 m ((g k).0 (inr m)), λ m. rest x k ys xs b m ((g k).1 (inr m)))) in
    ap (λ (z : ℕ). z ∷ xs) e ∙ ap (λ (zs : List ℕ). y ∷ zs) t
