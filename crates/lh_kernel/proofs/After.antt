-- What is kept of the instances after a frame fits, and wakes later.
use Rattle.std.proofs.Common.{◌≡◌, ◌≢◌, ℕ, zero, suc, ◌+◌, List, [], ◌∷◌, Bool, true, false, if◌then◌else◌, slice_get, slice_set, Option, Some, None, refl, ap, sym, subst, ◌⊎◌, inl, inr, ⊎_elim, arith}
use Rattle.std.specs.Option.{option_map_or}
use Rattle.std.specs.List.{list_any}
use Rattle.std.specs.declared.cmp.Ordering.{Ordering}
use Rattle.std.specs.declared.cmp.Ordering.TheVariants.{Less, Equal, Greater}
use Rattle.std.specs.Ordering.{is_eq, is_le, is_lt}
use Rattle.std.proofs.lemmas.Option.{same_Some, none-some}
use Rattle.lh_time.specs.declared.Instant.{Instant}
use Rattle.lh_time.specs.Order.{instant_cmp, instant_le, instant_eq, IsLaterIfAny}
use Rattle.lh_types.specs.declared.part.Range.{Range}
use Rattle.lh_types.proofs.Tests.{or_false_right}
use Rattle.lh_unit.specs.Arena.{Arena}
use Rattle.lh_unit.specs.Within.{Each}
use Rattle.lh_unit.specs.World.{bit_numbers, bit_differs, Moment, wakes}
use Rattle.lh_eval.specs.declared.instance.Instance.{Instance}
use Rattle.lh_kernel_wakes.specs.Rising.{IsOneOf}
use Rattle.lh_elab.specs.Probed.{probed_by}
use Rattle.lh_kernel_states.specs.declared.state.InstState.{InstState}
use Rattle.lh_kernel_states.specs.States.{StateFits, parts_sensed, wake_kept}
use Rattle.lh_kernel.specs.declared.run.Activation.{Activation}
use Rattle.lh_kernel.specs.States.{StatesFit, WakesItself}
use Rattle.lh_kernel.specs.Ran.{ActOfOne, states_after}
use Rattle.lh_kernel.specs.Woken.{awakes, awake_from}
use Rattle.lh_kernel.specs.Kept.{WakesAfter}
use Rattle.lh_kernel.proofs.Wished.{instances_of}

-- ---- what is kept fits

fit_set : (a : Arena) (width : ℕ) (is : List Instance) (ss : List InstState) (k : ℕ) (i : Instance) (s : InstState) → StatesFit a width is ss → slice_get is k ≡ Some i → StateFits a width i s →
    StatesFit a width is (slice_set ss k s)
fit_set a width [] [] k i s f e g = absurd (none-some i e)
fit_set a width [] (t ∷ ts) k i s f e g = absurd f
fit_set a width (j ∷ js) [] k i s f e g = absurd f
fit_set a width (j ∷ js) (t ∷ ts) zero i s f e g = (subst (λ x. StateFits a width x s) (sym (same_Some j i e)) g, f.1)
fit_set a width (j ∷ js) (t ∷ ts) (suc k) i s f e g = (f.0, fit_set a width js ts k i s f.1 e g)

pub after_fit : (a : Arena) (width : ℕ) (t : Instant) (is : List Instance) (ss : List InstState) (xs : List Activation) → StatesFit a width is ss → Each (ActOfOne a width t is) xs →
    StatesFit a width is (states_after ss xs)
after_fit a width t is ss [] f e = f
after_fit a width t is ss (x ∷ xs) f e =
    after_fit a width t is (slice_set ss x.instance x.act.next) xs (fit_set a width is ss x.instance e.0.instance x.act.next f e.0.is e.0.sound.fits) e.1

-- ---- what is kept wakes later

-- what is got where one was set
get_set : (ss : List InstState) (k j : ℕ) (s x : InstState) → slice_get (slice_set ss k s) j ≡ Some x → ((k ≡ j) × (s ≡ x)) ⊎ ((k ≢ j) × (slice_get ss j ≡ Some x))
get_set [] k j s x e = absurd (none-some x e)
get_set (y ∷ ys) zero zero s x e = inl (refl, same_Some s x e)
get_set (y ∷ ys) zero (suc j) s x e = inr (λ q. omega (arith, q), e)
get_set (y ∷ ys) (suc k) zero s x e = inr (λ q. omega (arith, q), e)
get_set (y ∷ ys) (suc k) (suc j) s x e = ⊎_elim (λ p. inl (ap suc p.0, p.1)) (λ p. inr (λ q. p.0 (omega (arith, q)), p.1)) (get_set ys k j s x e)

-- each is one of these, or wakes by itself later, if it does
abbrev pub OthersLater : Instant → List ℕ → List InstState → Type 0
OthersLater t ks ss = (k : ℕ) (s : InstState) → slice_get ss k ≡ Some s → IsOneOf k ks ⊎ IsLaterIfAny t (wake_kept s)

one_later : (t : Instant) (ks : List ℕ) (ss : List InstState) (k : ℕ) (s : InstState) → OthersLater t (k ∷ ks) ss → IsLaterIfAny t (wake_kept s) → OthersLater t ks (slice_set ss k s)
one_later t ks ss k s h l j x e = ⊎_elim (λ p. inr (subst (λ (z : InstState). IsLaterIfAny t (wake_kept z)) p.1 l)) (λ p. drop p.0 (h j x p.1)) (get_set ss k j s x e)
  where
    drop : k ≢ j → IsOneOf j (k ∷ ks) ⊎ IsLaterIfAny t (wake_kept x) → IsOneOf j ks ⊎ IsLaterIfAny t (wake_kept x)
    drop n (inl (inl p)) = absurd (n p)
    drop n (inl (inr p)) = inl p
    drop n (inr p) = inr p

all_later : (t : Instant) (ss : List InstState) → OthersLater t [] ss → Each (WakesAfter (Some t)) ss
all_later t [] h = tt
all_later t (s ∷ ss) h = (⊎_elim (λ p. absurd p) (λ p. p) (h 0 s refl), all_later t ss (λ k x e. h (suc k) x e))

after_later : (a : Arena) (width : ℕ) (t : Instant) (is : List Instance) (ss : List InstState) (xs : List Activation) → OthersLater t (instances_of xs) ss → Each (ActOfOne a width t is) xs →
    Each (WakesAfter (Some t)) (states_after ss xs)
after_later a width t is ss [] h e = all_later t ss h
after_later a width t is ss (x ∷ xs) h e =
    after_later a width t is (slice_set ss x.instance x.act.next) xs (one_later t (instances_of xs) ss x.instance x.act.next h e.0.sound.wakes) e.1

-- what is no earlier and is not at the instant is later
not_at_later : (o : Ordering) → is_eq o ≡ false → is_le o ≡ true → is_lt o ≡ true
not_at_later Less e l = refl
not_at_later Equal e l = cc
not_at_later Greater e l = cc

later_if : (t : Instant) (o : Option Instant) → option_map_or (instant_eq t) o false ≡ false → ((u : Instant) → o ≡ Some u → instant_le t u ≡ true) → IsLaterIfAny t o
later_if t None e l = tt
later_if t (Some u) e l = not_at_later (instant_cmp t u) e (l u refl)

-- who does not wake wakes by itself later, if it does
sleeps_later : (m : Moment) (sensed : List Range) (wake : Option Instant) → wakes m sensed wake ≡ false → ((u : Instant) → wake ≡ Some u → instant_le m.at u ≡ true) → IsLaterIfAny m.at wake
sleeps_later m sensed wake = by m.before
  where
    by : (before : Option (List Bool)) → wakes (record { before = before; now = m.now; at = m.at }) sensed wake ≡ false →
        ((u : Instant) → wake ≡ Some u → instant_le m.at u ≡ true) → IsLaterIfAny m.at wake
    by None e l = absurd cc
    by (Some old) e l = later_if m.at wake (or_false_right (list_any (bit_differs old m.now) (bit_numbers sensed)) (option_map_or (instant_eq m.at) wake false) e) l

-- from number n on, each is awake or wakes later
awake_or_later : (n : ℕ) (a : Arena) (width : ℕ) (m : Moment) (is : List Instance) (ss : List InstState) → StatesFit a width is ss →
    ((u : Instant) (k : ℕ) → WakesItself ss u k → instant_le m.at u ≡ true) → (k : ℕ) (s : InstState) → slice_get ss k ≡ Some s →
    IsOneOf (n + k) (awake_from n a m is ss) ⊎ IsLaterIfAny m.at (wake_kept s)
awake_or_later n a width m is [] f l k s e = absurd (none-some s e)
awake_or_later n a width m [] (x ∷ xs) f l k s e = absurd f
awake_or_later n a width m (i ∷ is) (x ∷ xs) f l zero s e = at (awakes a m i x) refl
  where
    same : x ≡ s
    same = same_Some x s e

    at : (b : Bool) → awakes a m i x ≡ b → IsOneOf (n + 0) (if b then n ∷ awake_from (n + 1) a m is xs else awake_from (n + 1) a m is xs) ⊎ IsLaterIfAny m.at (wake_kept s)
    at true b = inl (inl (omega arith))
    at false b = inr (subst (λ (z : InstState). IsLaterIfAny m.at (wake_kept z)) same
        (sleeps_later m (parts_sensed x (probed_by a i)) (wake_kept x) b (λ u w. l u 0 (record { state = x; stands = refl; wakes = w }))))
awake_or_later n a width m (i ∷ is) (x ∷ xs) f l (suc k) s e =
    at (awakes a m i x) (subst (λ j. IsOneOf j (awake_from (n + 1) a m is xs) ⊎ IsLaterIfAny m.at (wake_kept s)) same
    (awake_or_later (n + 1) a width m is xs f.1 (λ u j w. l u (suc j) (record { state = w.state; stands = w.stands; wakes = w.wakes })) k s e))
  where
    same : n + 1 + k ≡ n + suc k
    same = omega arith

    at : (b : Bool) → IsOneOf (n + suc k) (awake_from (n + 1) a m is xs) ⊎ IsLaterIfAny m.at (wake_kept s) →
        IsOneOf (n + suc k) (if b then n ∷ awake_from (n + 1) a m is xs else awake_from (n + 1) a m is xs) ⊎ IsLaterIfAny m.at (wake_kept s)
    at true h = ⊎_elim (λ p. inl (inr p)) (λ p. inr p) h
    at false h = h

-- after a frame in which exactly the woken did something, all wake later
pub after_wakes : (a : Arena) (width : ℕ) (m : Moment) (is : List Instance) (ss : List InstState) (xs : List Activation) → StatesFit a width is ss →
    ((u : Instant) (k : ℕ) → WakesItself ss u k → instant_le m.at u ≡ true) →
    instances_of xs ≡ awake_from 0 a m is ss → Each (ActOfOne a width m.at is) xs → Each (WakesAfter (Some m.at)) (states_after ss xs)
after_wakes a width m is ss xs f l e s =
    after_later a width m.at is ss xs
    (subst (λ ks. OthersLater m.at ks ss) (sym e) (λ k x g.
    subst (λ j. IsOneOf j (awake_from 0 a m is ss) ⊎ IsLaterIfAny m.at (wake_kept x)) (omega arith) (awake_or_later 0 a width m is ss f l k x g))) s
