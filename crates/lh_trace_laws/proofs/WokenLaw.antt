-- Which instances are listed as woken, and which bits toggle.
use Rattle.std.proofs.Common.{◌≡◌, ◌≤◌, ◌<◌, ◌⊎◌, inl, inr, ⊎_elim, ℕ, zero, suc, ◌+◌, List, [], ◌∷◌, length, take, drop, Bool, true, false, if◌then◌else◌, refl, ap, sym, ◌∙◌, subst, Some, arith}
use Rattle.std.specs.Prelude.{◌-◌, slice_get, slice_index, Contains}
use Rattle.std.specs.List.Sorted.{IsStrictlyIncreasing}
use Rattle.std.proofs.lemmas.List.{take_all, length-drop, length-take-le}
use Rattle.std.proofs.lemmas.List.Elements.{Contains-append_right, Contains-push_cases, Contains-append_cases}
use Rattle.std.proofs.lemmas.Option.{none-some, same_Some}
use Rattle.lh_types.specs.Types.{IsData, bit_count}
use Rattle.lh_types.specs.Bits.{value_bits, differing}
use Rattle.lh_types.specs.Parts.{bits_within}
use Rattle.lh_types.proofs.Lists.{Contains-nil}
use Rattle.lh_bits.proofs.ValueBits.{value_bits-value_from_bits}
use Rattle.lh_unit.specs.Contents.{ItemText}
use Rattle.lh_unit.specs.Hierarchy.{Instance}
use Rattle.lh_unit.specs.Design.{Signal}
use Rattle.lh_unit.specs.World.{State, unit_of, Moment, woken, moment_of}
use Rattle.lh_unit.specs.Trace.{signal_value}
use Rattle.lh_unit.specs.Frames.{woken_from, woken_at}
use Rattle.lh_trace_laws.specs.Frames.{IsWoken, WokenAreListed, WokenRise, ToggledBits}

contains-cases : (k : ℕ) (ks : List ℕ) (j : ℕ) → Contains (k ∷ ks) j → (k ≡ j) ⊎ Contains ks j
contains-cases k ks j c = ⊎_elim (λ h. ⊎_elim (λ n. absurd (Contains-nil j n)) (λ e. inl e) (Contains-push_cases [] k j h)) (λ t. inr t) (Contains-append_cases (k ∷ []) ks j c)

contains-first : (k : ℕ) (ks : List ℕ) → Contains (k ∷ ks) k
contains-first k ks = (zero, omega arith, refl)

contains-next : (k : ℕ) (ks : List ℕ) (j : ℕ) → Contains ks j → Contains (k ∷ ks) j
contains-next k ks j c = Contains-append_right (k ∷ []) ks j c

-- each of these numbers is at least n
abbrev AllFrom : ℕ → List ℕ → Type 0
AllFrom n [] = Unit {0}
AllFrom n (k ∷ ks) = (n ≤ k) × AllFrom n ks

from_later : (n m : ℕ) (ks : List ℕ) → n ≤ m → AllFrom m ks → AllFrom n ks
from_later n m [] l a = tt
from_later n m (k ∷ ks) l a = (omega (arith, l, a.0), from_later n m ks l a.1)

rising_first : (k : ℕ) (ks : List ℕ) → AllFrom (k + 1) ks → IsStrictlyIncreasing ks → IsStrictlyIncreasing (k ∷ ks)
rising_first k [] a r j h = absurd (omega (arith, h))
rising_first k (x ∷ xs) a r zero h = omega (arith, a.0)
rising_first k (x ∷ xs) a r (suc j) h =
    let e : slice_index (x ∷ xs) j < slice_index (x ∷ xs) (j + 1) = r j (omega (arith, h)) in
    let here : j + 1 ≡ suc j = omega arith in
    let next : suc (suc j) ≡ suc j + 1 = omega arith in
    subst (λ m. slice_index (x ∷ xs) j < slice_index (k ∷ x ∷ xs) m) next (subst (λ m. slice_index (x ∷ xs) j < slice_index (x ∷ xs) m) here e)

module _ (items : List ItemText) (m : Moment) where
  abbrev wakes_at : Instance → State → Bool
  wakes_at i s = woken m (unit_of items i.unit) i s

  abbrev numbers : ℕ → List Instance → List State → List ℕ
  numbers k is ss = woken_from k items m is ss

  -- the instance of number j is woken, the first of these having the number k
  record WokenAmong (k : ℕ) (is : List Instance) (ss : List State) (j : ℕ) : Type 0 where
    place : ℕ
    number : j ≡ k + place
    instance : Instance
    state : State
    is_there : slice_get is place ≡ Some instance
    stands_so : slice_get ss place ≡ Some state
    wakes : wakes_at instance state ≡ true

  woken_later : (k j : ℕ) (i : Instance) (is : List Instance) (s : State) (ss : List State) → WokenAmong (k + 1) is ss j → WokenAmong k (i ∷ is) (s ∷ ss) j
  woken_later k j i is s ss w =
      record { place = suc w.place; number = omega (arith, w.number); instance = w.instance; state = w.state; is_there = w.is_there; stands_so = w.stands_so; wakes = w.wakes }

  listed : (k : ℕ) (is : List Instance) (ss : List State) (j : ℕ) → Contains (numbers k is ss) j → WokenAmong k is ss j
  listed k [] ss j c = absurd (Contains-nil j c)
  listed k (i ∷ is) [] j c = absurd (Contains-nil j c)
  listed k (i ∷ is) (s ∷ ss) j c = at (wakes_at i s) refl c (listed (k + 1) is ss j)
    where
      at : (b : Bool) → wakes_at i s ≡ b → Contains (if b then k ∷ numbers (k + 1) is ss else numbers (k + 1) is ss) j
          → (Contains (numbers (k + 1) is ss) j → WokenAmong (k + 1) is ss j) → WokenAmong k (i ∷ is) (s ∷ ss) j
      at true e h ih = ⊎_elim
          (λ f. record { place = zero; number = omega (arith, f); instance = i; state = s; is_there = refl; stands_so = refl; wakes = e })
          (λ m. woken_later k j i is s ss (ih m)) (contains-cases k (numbers (k + 1) is ss) j h)
      at false e h ih = woken_later k j i is s ss (ih h)

  in_list : (k : ℕ) (is : List Instance) (ss : List State) (place : ℕ) (i : Instance) (s : State) → slice_get is place ≡ Some i → slice_get ss place ≡ Some s → wakes_at i s ≡ true
      → Contains (numbers k is ss) (k + place)
  in_list k [] ss place i s a b w = absurd (none-some i a)
  in_list k (x ∷ is) [] place i s a b w = absurd (none-some s b)
  in_list k (x ∷ is) (y ∷ ss) zero i s a b w =
      let e : wakes_at x y ≡ true = ap (λ z. wakes_at z y) (same_Some x i a) ∙ ap (wakes_at i) (same_Some y s b) ∙ w in
      let n : k + zero ≡ k = omega arith in
      rw (e, n) (contains-first k (numbers (k + 1) is ss))
  in_list k (x ∷ is) (y ∷ ss) (suc place) i s a b w = at (wakes_at x y) (subst (λ j. Contains (numbers (k + 1) is ss) j) sum (in_list (k + 1) is ss place i s a b w))
    where
      sum : k + 1 + place ≡ k + suc place
      sum = omega arith

      at : (b : Bool) → Contains (numbers (k + 1) is ss) (k + suc place) → Contains (if b then k ∷ numbers (k + 1) is ss else numbers (k + 1) is ss) (k + suc place)
      at true c = contains-next k (numbers (k + 1) is ss) (k + suc place) c
      at false c = c

  all_from : (k : ℕ) (is : List Instance) (ss : List State) → AllFrom k (numbers k is ss)
  all_from k [] ss = tt
  all_from k (i ∷ is) [] = tt
  all_from k (i ∷ is) (s ∷ ss) = at (wakes_at i s) (from_later k (k + 1) (numbers (k + 1) is ss) (omega arith) (all_from (k + 1) is ss))
    where
      at : (b : Bool) → AllFrom k (numbers (k + 1) is ss) → AllFrom k (if b then k ∷ numbers (k + 1) is ss else numbers (k + 1) is ss)
      at true a = (omega arith, a)
      at false a = a

  rising : (k : ℕ) (is : List Instance) (ss : List State) → IsStrictlyIncreasing (numbers k is ss)
  rising k [] ss j h = absurd (omega (arith, h))
  rising k (i ∷ is) [] j h = absurd (omega (arith, h))
  rising k (i ∷ is) (s ∷ ss) j h = at (wakes_at i s) (λ a b. rising (k + 1) is ss a b) j h
    where
      at : (b : Bool) → IsStrictlyIncreasing (numbers (k + 1) is ss) → IsStrictlyIncreasing (if b then k ∷ numbers (k + 1) is ss else numbers (k + 1) is ss)
      at true r = rising_first k (numbers (k + 1) is ss) (all_from (k + 1) is ss) r
      at false r = r

pub woken_are_listed : WokenAreListed
unfolding woken_at
woken_are_listed items d w t k = (λ c. shown (listed items (moment_of w t) 0 d.instances w.states k c), there)
  where
    there : IsWoken items d w t k → Contains (woken_from 0 items (moment_of w t) d.instances w.states) k
    there x =
        let n : 0 + k ≡ k = omega arith in
        subst (Contains (woken_from 0 items (moment_of w t) d.instances w.states)) n
        (in_list items (moment_of w t) 0 d.instances w.states k x.instance x.state x.is x.stands x.wakes)

    shown : WokenAmong items (moment_of w t) 0 d.instances w.states k → IsWoken items d w t k
    shown a =
        let same : a.place ≡ k = omega (arith, a.number) in
        record {
          instance = a.instance;
          state = a.state;
          is = ap (slice_get d.instances) (sym same) ∙ a.is_there;
          stands = ap (slice_get w.states) (sym same) ∙ a.stands_so;
          wakes = a.wakes;
        }

pub woken_rise : WokenRise
unfolding woken_at
woken_rise items d w t = rising items (moment_of w t) 0 d.instances w.states

-- the bits of the value of a signal are its bits
signal_bits : (s : Signal) (bits : List Bool) → IsData s.ty → s.lo + bit_count s.ty ≤ length bits → value_bits (signal_value bits s) ≡ bits_within s.lo (bit_count s.ty) bits
signal_bits s bits h l =
    let left : length (drop s.lo bits) ≡ length bits - s.lo = length-drop s.lo bits in
    let enough : bit_count s.ty ≤ length (drop s.lo bits) = omega (arith, left, l) in
    let many : length (take (bit_count s.ty) (drop s.lo bits)) ≡ bit_count s.ty = length-take-le (bit_count s.ty) (drop s.lo bits) enough in
    value_bits-value_from_bits s.ty h (take (bit_count s.ty) (drop s.lo bits)) (omega (arith, many)) ∙ take_all (bit_count s.ty) (take (bit_count s.ty) (drop s.lo bits)) (omega (arith, many))

pub toggled_bits : ToggledBits
toggled_bits s old now h l m = ap (λ v. differing v (value_bits (signal_value now s))) (signal_bits s old h l) ∙ ap (differing (bits_within s.lo (bit_count s.ty) old)) (signal_bits s now h m)
