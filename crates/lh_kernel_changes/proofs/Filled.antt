-- Signals that fill their bits: which signal has which bit.
use Rattle.std.proofs.Common.{arith, ◌≡◌, ℕ, zero, suc, ◌+◌, ◌-◌, ◌<◌, ◌≤◌, List, [], ◌∷◌, length, get_or, true, false, Option, Some, refl, ap, sym, ◌∙◌, subst, inl, inr}
use Rattle.std.specs.Prelude.{nat_le, slice_get}
use Rattle.std.specs.Option.{IsSomeAnd}
use Rattle.std.proofs.lemmas.Bool.{cases_lt}
use Rattle.std.proofs.lemmas.Bool.Decides.{nat_tests}
use Rattle.std.proofs.lemmas.Option.{same_Some, none-some, slice_get_read}
use Rattle.std.specs.List.Sorted.{IsPartitionedBy, IsPartitionPoint}
use Rattle.lh_types.specs.Types.{IsData, bit_count}
use Rattle.lh_types.proofs.Limits.{one_le-bit_count}
use Rattle.lh_kernel_wakes.specs.Rising.{IsOneOf}
use Rattle.lh_kernel_wakes.proofs.Places.{has_at}
use Rattle.lh_design.specs.declared.Signal.{Signal}
use Rattle.lh_design.specs.Filling.{FillFrom}
use Rattle.lh_kernel_changes.specs.Touched.{IsBitOf, SignalHasBit, AreSignals}

none_has : (k b : ℕ) → SignalHasBit [] k b → ⊥
none_has zero b h = h
none_has (suc k) b h = h

-- a bit of the signal of a number, by the signal
pub has_of : (ss : List Signal) (k : ℕ) (s : Signal) (b : ℕ) → slice_get ss k ≡ Some s → IsBitOf s b → SignalHasBit ss k b
has_of ss k s b e h = subst (λ (o : Option Signal). IsSomeAnd o (λ (x : Signal). IsBitOf x b)) (sym e) h

pub of_has : (ss : List Signal) (k : ℕ) (s : Signal) (b : ℕ) → slice_get ss k ≡ Some s → SignalHasBit ss k b → IsBitOf s b
of_has ss k s b e h = subst (λ (o : Option Signal). IsSomeAnd o (λ (x : Signal). IsBitOf x b)) e h

pub is_below : (ss : List Signal) (k b : ℕ) → SignalHasBit ss k b → k < length ss
is_below [] k b h = absurd (none_has k b h)
is_below (s ∷ ss) zero b h = omega arith
is_below (s ∷ ss) (suc k) b h = let r : k < length ss = is_below ss k b h in omega arith

fill_le : (lo hi : ℕ) (ss : List Signal) → FillFrom lo ss hi → lo ≤ hi
fill_le lo hi [] f = omega arith
fill_le lo hi (s ∷ ss) f = let r : lo + bit_count s.ty ≤ hi = fill_le (lo + bit_count s.ty) hi ss f.2 in omega arith

low_le : (lo hi : ℕ) (ss : List Signal) (k b : ℕ) → FillFrom lo ss hi → SignalHasBit ss k b → lo ≤ b
low_le lo hi [] k b f h = absurd (none_has k b h)
low_le lo hi (s ∷ ss) zero b f h = omega (arith, f.0, h.0)
low_le lo hi (s ∷ ss) (suc k) b f h = let r : lo + bit_count s.ty ≤ b = low_le (lo + bit_count s.ty) hi ss k b f.2 h in omega arith

-- a signal's number is at most the number of each of its bits
pub number_le : (lo hi : ℕ) (ss : List Signal) (k b : ℕ) → FillFrom lo ss hi → SignalHasBit ss k b → lo + k ≤ b
number_le lo hi [] k b f h = absurd (none_has k b h)
number_le lo hi (s ∷ ss) zero b f h = omega (arith, f.0, h.0)
number_le lo hi (s ∷ ss) (suc k) b f h =
    let r : lo + bit_count s.ty + k ≤ b = number_le (lo + bit_count s.ty) hi ss k b f.2 h in
    let one : 1 ≤ bit_count s.ty = one_le-bit_count s.ty f.1 in
    omega arith

-- there are at most as many signals as bits
pub many_le : (lo hi : ℕ) (ss : List Signal) → FillFrom lo ss hi → lo + length ss ≤ hi
many_le lo hi [] f = omega arith
many_le lo hi (s ∷ ss) f =
    let r : lo + bit_count s.ty + length ss ≤ hi = many_le (lo + bit_count s.ty) hi ss f.2 in
    let one : 1 ≤ bit_count s.ty = one_le-bit_count s.ty f.1 in
    omega arith

-- each signal is of a data type, and lies within the bits
pub at_signal : (lo hi : ℕ) (ss : List Signal) (k : ℕ) (s : Signal) → FillFrom lo ss hi → slice_get ss k ≡ Some s → IsData s.ty × (s.lo + bit_count s.ty ≤ hi)
at_signal lo hi [] k s f e = absurd (none-some s e)
at_signal lo hi (x ∷ ss) zero s f e =
    let same : x ≡ s = same_Some x s e in
    let r : lo + bit_count x.ty ≤ hi = fill_le (lo + bit_count x.ty) hi ss f.2 in
    subst (λ (y : Signal). IsData y.ty × (y.lo + bit_count y.ty ≤ hi)) same (f.1, omega (arith, f.0, r))
at_signal lo hi (x ∷ ss) (suc k) s f e = at_signal (lo + bit_count x.ty) hi ss k s f.2 e

-- each bit of a signal is one of the bits
pub bit_below : (lo hi : ℕ) (ss : List Signal) (k b : ℕ) → FillFrom lo ss hi → SignalHasBit ss k b → b < hi
bit_below lo hi [] k b f h = absurd (none_has k b h)
bit_below lo hi (s ∷ ss) zero b f h =
    let r : lo + bit_count s.ty ≤ hi = fill_le (lo + bit_count s.ty) hi ss f.2 in
    omega (arith, f.0, h.1, r)
bit_below lo hi (s ∷ ss) (suc k) b f h = bit_below (lo + bit_count s.ty) hi ss k b f.2 h

-- the bits of an earlier signal are less
pub strict : (lo hi : ℕ) (ss : List Signal) (i j a b : ℕ) → FillFrom lo ss hi → i < j → SignalHasBit ss i a → SignalHasBit ss j b → a < b
strict lo hi [] i j a b f l h g = absurd (none_has i a h)
strict lo hi (s ∷ ss) i zero a b f l h g = absurd (omega arith)
strict lo hi (s ∷ ss) zero (suc j) a b f l h g =
    let r : lo + bit_count s.ty ≤ b = low_le (lo + bit_count s.ty) hi ss j b f.2 g in
    omega (arith, f.0, h.1, r)
strict lo hi (s ∷ ss) (suc i) (suc j) a b f l h g = strict (lo + bit_count s.ty) hi ss i j a b f.2 (omega arith) h g

pub in_order : (hi : ℕ) (ss : List Signal) (i j a b : ℕ) → FillFrom 0 ss hi → SignalHasBit ss i a → SignalHasBit ss j b → a ≤ b → i ≤ j
in_order hi ss i j a b f h g le = elim (cases_lt j i) [
  | inl l ↦ absurd (omega (arith, le, strict 0 hi ss j i b a f l g h))
  | inr n ↦ n
]

-- a bit is of one signal
pub one_signal : (hi : ℕ) (ss : List Signal) (i j b : ℕ) → FillFrom 0 ss hi → SignalHasBit ss i b → SignalHasBit ss j b → i ≡ j
one_signal hi ss i j b f h g =
    let p : i ≤ j = in_order hi ss i j b b f h g (omega arith) in
    let q : j ≤ i = in_order hi ss j i b b f g h (omega arith) in
    omega arith

-- a signal has some bit, and a bit some signal
pub some_bit : (lo hi : ℕ) (ss : List Signal) (k : ℕ) → FillFrom lo ss hi → k < length ss → (b : ℕ) × SignalHasBit ss k b
some_bit lo hi [] k f l = absurd (omega arith)
some_bit lo hi (s ∷ ss) zero f l = let one : 1 ≤ bit_count s.ty = one_le-bit_count s.ty f.1 in (s.lo, (omega arith, omega arith))
some_bit lo hi (s ∷ ss) (suc k) f l = some_bit (lo + bit_count s.ty) hi ss k f.2 (omega arith)

pub some_signal : (lo hi : ℕ) (ss : List Signal) (b : ℕ) → FillFrom lo ss hi → lo ≤ b → b < hi → (k : ℕ) × SignalHasBit ss k b
some_signal lo hi [] b f l h = absurd (omega (arith, f))
some_signal lo hi (s ∷ ss) b f l h = elim (cases_lt b (lo + bit_count s.ty)) [
  | inl m ↦ (0, (omega (arith, f.0), omega (arith, f.0)))
  | inr n ↦ let r = some_signal (lo + bit_count s.ty) hi ss b f.2 n h in (suc r.0, r.1)
]

-- the signal before the first that begins behind a bit
pub record FoundAt (lo : ℕ) (ss : List Signal) (bit i : ℕ) : Type 0 where
  pub number : ℕ
  pub before : i ≡ suc number
  pub low : lo + number ≤ bit
  pub has : SignalHasBit ss number bit

pub found_at : (lo hi bit i : ℕ) (ss : List Signal) → FillFrom lo ss hi → lo ≤ bit → bit < hi → i ≤ length ss →
    ((k : ℕ) (d : Signal) → k < i → nat_le (get_or ss k d).lo bit ≡ true) → ((k : ℕ) (d : Signal) → i ≤ k → k < length ss → nat_le (get_or ss k d).lo bit ≡ false) → FoundAt lo ss bit i
found_at lo hi bit i [] f l h n t u = absurd (omega (arith, f))
found_at lo hi bit zero (s ∷ ss) f l h n t u = absurd (behind s.lo bit (u 0 s (omega arith) (omega arith)) (omega (arith, f.0)))
  where
    behind : (a b : ℕ) → nat_le a b ≡ false → a ≤ b → ⊥
    behind a b e p = grind (arith, nat_tests)
found_at lo hi bit (suc i) (s ∷ ss) f l h n t u = elim (cases_lt bit (lo + bit_count s.ty)) [
  | inl m ↦ first i ss f.2 m (λ k d q. t (suc k) d (omega arith)) (omega arith)
  | inr m ↦
      let r = found_at (lo + bit_count s.ty) hi bit i ss f.2 m h (omega arith) (λ k d q. t (suc k) d (omega arith)) (λ k d p q. u (suc k) d (omega arith) (omega arith)) in
      let one : 1 ≤ bit_count s.ty = one_le-bit_count s.ty f.1 in
      record { number = suc r.number; before = omega (arith, r.before); low = omega (arith, r.low); has = r.has }
]
  where
    inside : (a b : ℕ) → nat_le a b ≡ true → b < a → ⊥
    inside a b e p = grind (arith, nat_tests)

    first : (i : ℕ) (ss : List Signal) → FillFrom (lo + bit_count s.ty) ss hi → bit < lo + bit_count s.ty → ((k : ℕ) (d : Signal) → k < i → nat_le (get_or ss k d).lo bit ≡ true) → i ≤ length ss
        → FoundAt lo (s ∷ ss) bit (suc i)
    first zero ss g m t n = record { number = 0; before = omega arith; low = omega arith; has = (omega (arith, f.0), omega (arith, f.0)) }
    first (suc i) [] g m t n = absurd (omega arith)
    first (suc i) (x ∷ more) g m t n = absurd (inside x.lo bit (t 0 x (omega arith)) (omega (arith, g.0)))

-- by the lowest bits, those of the signals up to a bit come first
lo_le : (lo hi : ℕ) (ss : List Signal) (j : ℕ) (d : Signal) → FillFrom lo ss hi → j < length ss → lo ≤ (get_or ss j d).lo
lo_le lo hi [] j d f l = absurd (omega arith)
lo_le lo hi (s ∷ ss) zero d f l = omega (arith, f.0)
lo_le lo hi (s ∷ ss) (suc j) d f l = let r : lo + bit_count s.ty ≤ (get_or ss j d).lo = lo_le (lo + bit_count s.ty) hi ss j d f.2 (omega arith) in omega arith

lo_rises : (lo hi : ℕ) (ss : List Signal) (i j : ℕ) (d : Signal) → FillFrom lo ss hi → i ≤ j → j < length ss → (get_or ss i d).lo ≤ (get_or ss j d).lo
lo_rises lo hi [] i j d f h l = absurd (omega arith)
lo_rises lo hi (s ∷ ss) zero zero d f h l = omega arith
lo_rises lo hi (s ∷ ss) zero (suc j) d f h l = let r : lo + bit_count s.ty ≤ (get_or ss j d).lo = lo_le (lo + bit_count s.ty) hi ss j d f.2 (omega arith) in omega (arith, f.0)
lo_rises lo hi (s ∷ ss) (suc i) zero d f h l = absurd (omega arith)
lo_rises lo hi (s ∷ ss) (suc i) (suc j) d f h l = lo_rises (lo + bit_count s.ty) hi ss i j d f.2 (omega arith) (omega arith)

pub parted : (hi bit : ℕ) (ss xs : List Signal) → xs ≡ ss → FillFrom 0 ss hi → IsPartitionedBy (λ (s : Signal). nat_le s.lo bit) xs
parted hi bit ss xs e f =
    let P : List Signal → Type 0 = IsPartitionedBy (λ (s : Signal). nat_le s.lo bit) in
    subst P (sym e) (λ i j d h l p. lower (get_or ss i d).lo (get_or ss j d).lo (lo_rises 0 hi ss i j d f h l) p)
  where
    lower : (a b : ℕ) → a ≤ b → nat_le b bit ≡ true → nat_le a bit ≡ true
    lower a b h p = grind (arith, nat_tests)

pub found_point : (hi bit i : ℕ) (ss xs : List Signal) → xs ≡ ss → FillFrom 0 ss hi → bit < hi → i ≤ length xs →
    IsPartitionPoint (λ (s : Signal). nat_le s.lo bit ≡ true) (λ (s : Signal). nat_le s.lo bit ≡ false) xs i → FoundAt 0 ss bit i
found_point hi bit i ss xs e f h n p =
    let same : length xs ≡ length ss = ap length e in
    let Q : List Signal → Type 0 = λ ys. IsPartitionPoint (λ (s : Signal). nat_le s.lo bit ≡ true) (λ (s : Signal). nat_le s.lo bit ≡ false) ys i in
    let q : IsPartitionPoint (λ (s : Signal). nat_le s.lo bit ≡ true) (λ (s : Signal). nat_le s.lo bit ≡ false) ss i = subst Q e p in
    found_at 0 hi bit i ss f (omega arith) h (omega arith) (λ k d l. q.0 k d (omega arith) l) (λ k d l m. q.1 k d l m)

-- the signal of a number, as code reads it
pub there : (ss xs : List Signal) (k : ℕ) (s : Signal) → xs ≡ ss → k < length ss → s ≡ get_or xs k s → slice_get ss k ≡ Some s
there ss xs k s v l e = ap (λ (ys : List Signal). slice_get ys k) (sym v) ∙ slice_get_read xs (length ss) k s (ap length (sym v)) l e

-- the same of one that was looked up
pub looked_up : (ss xs : List Signal) (k : ℕ) (s : Signal) → xs ≡ ss → s ≡ get_or xs k s → k < length xs → slice_get ss k ≡ Some s
looked_up ss xs k s v e l = there ss xs k s v (subst (λ (ys : List Signal). k < length ys) v l) e

pub fits_there : (hi : ℕ) (ss xs : List Signal) (k : ℕ) (s : Signal) → FillFrom 0 ss hi → xs ≡ ss → k < length ss → s ≡ get_or xs k s → IsData s.ty × (s.lo + bit_count s.ty ≤ hi)
fits_there hi ss xs k s f v l e = at_signal 0 hi ss k s f (there ss xs k s v l e)

-- the numbers of signals are below how many there are
pub known_at : (ss : List Signal) (items touched : List ℕ) (i : ℕ) → items ≡ touched → AreSignals ss touched → i < length items → get_or items i 0 < length ss
known_at ss items touched i e known l = known (get_or items i 0) (subst (λ (ks : List ℕ). IsOneOf (get_or items i 0) ks) e (has_at (get_or items i 0) items i l refl))

pub found_number : (lo : ℕ) (ss : List Signal) (bit i : ℕ) → FoundAt lo ss bit i → SignalHasBit ss (i - 1) bit
found_number lo ss bit i f = let e : f.number ≡ i - 1 = omega (arith, f.before) in subst (λ (k : ℕ). SignalHasBit ss k bit) e f.has
