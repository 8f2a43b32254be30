-- Runs of bits of words: their length, their parts, and when two are equal.
use Rattle.std.proofs.Common.{◌≡◌, ℕ, ◌+◌, ◌-◌, ◌/◌, ◌%◌, ◌^◌, ◌<◌, ◌≤◌, ◌≢◌, inl, inr, zero, suc, Bool, false, nat_eq, List, [], ◌∷◌, ◌++◌, length, take, drop, replicate, get_or, Some, refl, ap, sym, ◌∙◌, arith}
use Rattle.std.specs.List.{slice_get}
use Rattle.std.specs.Int.{bit_at}
use Rattle.std.proofs.lemmas.Bool.Decides.{nat_tests}
use Rattle.std.proofs.lemmas.Nat.Bits.{bit_at-lt, bit_at_lowest, bit_at-suc, bit_at-zero, same_from_bits_below}
use Rattle.std.proofs.lemmas.Bool.{cases_lt}
use Rattle.lh_bits.specs.Flags.{word_bit, flags}
use Rattle.lh_types.specs.Bits.{number_bits}
use Rattle.lh_types.specs.Parts.{bits_within}

pub length-flags : (n i : ℕ) (ws : List ℕ) → length (flags n i ws) ≡ n
length-flags zero i ws = refl
length-flags (suc n) i ws = ap suc (length-flags n (suc i) ws)

pub word_bit-lt : (ws : List ℕ) (i : ℕ) → word_bit ws i < 2
unfolding word_bit
word_bit-lt ws i = bit_at-lt (get_or ws (i / 64) 0) (i % 64)

-- a run is its first bits, then the rest
pub flags-add : (m n i : ℕ) (ws : List ℕ) → flags (m + n) i ws ≡ flags m i ws ++ flags n (i + m) ws
flags-add zero n i ws =
    let e : 0 + n ≡ n = omega arith in
    let f : i + 0 ≡ i = omega arith in
    rw (e, f) refl
flags-add (suc m) n i ws =
    let e : suc m + n ≡ suc (m + n) = omega arith in
    let f : i + suc m ≡ suc i + m = omega arith in
    rw (e, f) (ap (λ bs. nat_eq (word_bit ws i) 1 ∷ bs) (flags-add m n (suc i) ws))

pub take-flags : (m n i : ℕ) (ws : List ℕ) → take m (flags (m + n) i ws) ≡ flags m i ws
take-flags zero n i ws = refl
take-flags (suc m) n i ws =
    let e : suc m + n ≡ suc (m + n) = omega arith in
    rw e (ap (λ bs. nat_eq (word_bit ws i) 1 ∷ bs) (take-flags m n (suc i) ws))

pub drop-flags : (m n i : ℕ) (ws : List ℕ) → drop m (flags (m + n) i ws) ≡ flags n (i + m) ws
drop-flags zero n i ws =
    let e : 0 + n ≡ n = omega arith in
    let f : i + 0 ≡ i = omega arith in
    rw (e, f) refl
drop-flags (suc m) n i ws =
    let e : suc m + n ≡ suc (m + n) = omega arith in
    let f : i + suc m ≡ suc i + m = omega arith in
    rw (e, f) (drop-flags m n (suc i) ws)

-- a part of all the bits is a run
pub bits_within-flags : (n lo len : ℕ) (ws : List ℕ) → lo + len ≤ n → bits_within lo len (flags n 0 ws) ≡ flags len lo ws
bits_within-flags n lo len ws h =
    let e : n ≡ lo + (len + (n - (lo + len))) = omega arith in
    let f : 0 + lo ≡ lo = omega arith in
    ap (λ k. take len (drop lo (flags k 0 ws))) e
    ∙ ap (λ bs. take len bs) (drop-flags lo (len + (n - (lo + len))) 0 ws)
    ∙ ap (λ i. take len (flags (len + (n - (lo + len))) i ws)) f
    ∙ take-flags len (n - (lo + len)) lo ws

-- runs with the same bits are equal, and the other way round
pub flags-same : (n i k : ℕ) (ws vs : List ℕ) → ((j : ℕ) → j < n → word_bit ws (i + j) ≡ word_bit vs (k + j)) → flags n i ws ≡ flags n k vs
flags-same zero i k ws vs f = refl
flags-same (suc n) i k ws vs f =
    let zi : i ≡ i + 0 = omega arith in
    let zk : k + 0 ≡ k = omega arith in
    let a : word_bit ws i ≡ word_bit vs k = ap (λ x. word_bit ws x) zi ∙ f 0 (omega arith) ∙ ap (λ x. word_bit vs x) zk in
    let t : flags n (suc i) ws ≡ flags n (suc k) vs = flags-same n (suc i) (suc k) ws vs (λ j h.
    let si : suc i + j ≡ i + suc j = omega arith in
    let sk : k + suc j ≡ suc k + j = omega arith in
    ap (λ x. word_bit ws x) si ∙ f (suc j) (omega arith) ∙ ap (λ x. word_bit vs x) sk) in
    rw (a, t) refl

same_bit : (a b : ℕ) → a < 2 → b < 2 → nat_eq a 1 ≡ nat_eq b 1 → a ≡ b
same_bit a b p q e = grind (arith, nat_tests)

pub flags-tell : (n i k j : ℕ) (ws vs : List ℕ) → flags n i ws ≡ flags n k vs → j < n → word_bit ws (i + j) ≡ word_bit vs (k + j)
flags-tell zero i k j ws vs e h = absurd (omega arith)
flags-tell (suc n) i k zero ws vs e h =
    let zi : i + 0 ≡ i = omega arith in
    let zk : k + 0 ≡ k = omega arith in
    let head : nat_eq (word_bit ws i) 1 ≡ nat_eq (word_bit vs k) 1 = cc in
    rw (zi, zk) (same_bit (word_bit ws i) (word_bit vs k) (word_bit-lt ws i) (word_bit-lt vs k) head)
flags-tell (suc n) i k (suc j) ws vs e h =
    let si : i + suc j ≡ suc i + j = omega arith in
    let sk : k + suc j ≡ suc k + j = omega arith in
    let tail : flags n (suc i) ws ≡ flags n (suc k) vs = cc in
    rw (si, sk) (flags-tell n (suc i) (suc k) j ws vs tail (omega arith))

-- a run is the bits of the number that has them
pub flags-number : (n i x : ℕ) (ws : List ℕ) → ((j : ℕ) → j < n → bit_at x j ≡ word_bit ws (i + j)) → flags n i ws ≡ number_bits n x
flags-number zero i x ws f = refl
flags-number (suc n) i x ws f =
    let zi : i ≡ i + 0 = omega arith in
    let a : word_bit ws i ≡ x % 2 = ap (λ k. word_bit ws k) zi ∙ sym (f 0 (omega arith)) ∙ bit_at_lowest x in
    let t : flags n (suc i) ws ≡ number_bits n (x / 2) = flags-number n (suc i) (x / 2) ws (λ j h.
    let si : i + suc j ≡ suc i + j = omega arith in
    sym (bit_at-suc x j) ∙ f (suc j) (omega arith) ∙ ap (λ k. word_bit ws k) si) in
    rw (a, t) refl

-- one bit of a run
pub slice_get-flags : (n i j : ℕ) (ws : List ℕ) → j < n → slice_get (flags n i ws) j ≡ Some (nat_eq (word_bit ws (i + j)) 1)
slice_get-flags zero i j ws h = absurd (omega arith)
slice_get-flags (suc n) i zero ws h =
    let zi : i + 0 ≡ i = omega arith in
    rw zi refl
slice_get-flags (suc n) i (suc j) ws h =
    let si : i + suc j ≡ suc i + j = omega arith in
    rw si (slice_get-flags n (suc i) j ws (omega arith))

-- words that are 0
get_or-zeros : (n k : ℕ) → get_or (replicate n zero) k zero ≡ zero
get_or-zeros zero k = refl
get_or-zeros (suc n) zero = refl
get_or-zeros (suc n) (suc k) = get_or-zeros n k

pub word_bit-zeros : (n i : ℕ) → word_bit (replicate n 0) i ≡ 0
unfolding word_bit
word_bit-zeros n i = ap (λ x. bit_at x (i % 64)) (get_or-zeros n (i / 64)) ∙ bit_at-zero (i % 64)

pub flags-zeros : (n i m : ℕ) → flags n i (replicate m 0) ≡ replicate n false
flags-zeros zero i m = refl
flags-zeros (suc n) i m = rw (word_bit-zeros m i) (ap (λ bs. false ∷ bs) (flags-zeros n (suc i) m))

-- the length of what the run is
pub length_view : (n i : ℕ) (ws : List ℕ) (bs : List Bool) → flags n i ws ≡ bs → length bs ≡ n
length_view n i ws bs e = ap length (sym e) ∙ length-flags n i ws

-- one step of a write: n more bits, which are those of x
pub written_more : (f : ℕ → ℕ) (m n lo x : ℕ) (new old : List ℕ) → ((j : ℕ) → j < m → word_bit old (lo + j) ≡ f j) → ((i : ℕ) → i < lo + m → word_bit new i ≡ word_bit old i)
    → ((j : ℕ) → j < n → word_bit new (lo + m + j) ≡ bit_at x j) → ((j : ℕ) → j < n → bit_at x j ≡ f (m + j)) → (j : ℕ) → j < m + n → word_bit new (lo + j) ≡ f j
written_more f m n lo x new old was before each read j h = elim (cases_lt j m) [
  | inl p ↦ before (lo + j) (omega arith) ∙ was j p
  | inr p ↦
      let e : lo + j ≡ lo + m + (j - m) = omega arith in
      let g : m + (j - m) ≡ j = omega arith in
      let b : j - m < n = omega arith in
      ap (λ i. word_bit new i) e ∙ each (j - m) b ∙ read (j - m) b ∙ ap f g
]

-- one step of a comparison
pub same_more : (m n lo x y : ℕ) (ws vs : List ℕ) → flags m lo ws ≡ flags m lo vs → x ≡ y → ((j : ℕ) → j < n → bit_at x j ≡ word_bit ws (lo + m + j))
    → ((j : ℕ) → j < n → bit_at y j ≡ word_bit vs (lo + m + j)) → flags (m + n) lo ws ≡ flags (m + n) lo vs
same_more m n lo x y ws vs e s f g = rw (flags-add m n lo ws, flags-add m n lo vs, e, flags-number n (lo + m) x ws f, flags-number n (lo + m) y vs g, s) refl

pub not_same : (len m n lo x y : ℕ) (ws vs : List ℕ) → m + n ≤ len → x < 2 ^ n → y < 2 ^ n → x ≢ y → ((j : ℕ) → j < n → bit_at x j ≡ word_bit ws (lo + m + j))
    → ((j : ℕ) → j < n → bit_at y j ≡ word_bit vs (lo + m + j)) → flags len lo ws ≡ flags len lo vs → ⊥
not_same len m n lo x y ws vs h p q d f g e = d (same_from_bits_below n x y p q (λ j b.
    let i : lo + m + j ≡ lo + (m + j) = omega arith in
    f j b ∙ ap (λ k. word_bit ws k) i ∙ flags-tell len lo lo (m + j) ws vs e (omega arith) ∙ ap (λ k. word_bit vs k) (sym i) ∙ sym (g j b)))

-- a word that is 0 at the end
get_or-zero_after : (ws : List ℕ) (k : ℕ) → get_or (ws ++ zero ∷ []) k zero ≡ get_or ws k zero
get_or-zero_after [] zero = refl
get_or-zero_after [] (suc k) = refl
get_or-zero_after (w ∷ ws) zero = refl
get_or-zero_after (w ∷ ws) (suc k) = get_or-zero_after ws k

pub word_bit-zero_after : (ws : List ℕ) (i : ℕ) → word_bit (ws ++ 0 ∷ []) i ≡ word_bit ws i
unfolding word_bit
word_bit-zero_after ws i = ap (λ x. bit_at x (i % 64)) (get_or-zero_after ws (i / 64))
