-- Words of gates.
use Rattle.std.proofs.Common.{◌≡◌, ℕ, zero, suc, ◌+◌, ◌-◌, ◌*◌, ◌^◌, ◌<◌, ◌≤◌, not, List, [], ◌∷◌, ◌++◌, refl, sym, ap, ◌∙◌, inl, inr, ◌⊎◌, arith, ◌&&◌, ◌||◌, if◌then◌else◌, bit_and, bit_or, bit_xor, nat_lt, ltb-true}
use Rattle.std.specs.Prelude.{slice_index}
use Rattle.std.proofs.lemmas.List.{map_push}
use Rattle.std.proofs.lemmas.Bool.{cases_Bool}
use Rattle.std.proofs.lemmas.Bool.Decides.{nat_tests}
use Rattle.lh_edge.specs.Valuations.{differ}
use Rattle.lh_cert_agree.specs.Gates.{bit_of_number, bit_in, gate_bit, gate_bits, column, AreWords, AreSame}
use Rattle.lh_cert_agree.specs.declared.gates.Gate.{Gate}
use Rattle.lh_cert_agree.specs.declared.gates.Gate.TheVariants as gate
use Rattle.lh_cert_agree.proofs.Gating.{behind_push}
use Rattle.lh_cert_agree.proofs.Bits.{bit_of_and, bit_of_or, bit_of_xor, bit_of_zero, same_words}

-- the bit of a place
pub column_at : (i : ℕ) (words : List ℕ) (p : ℕ) → bit_of_number (slice_index words p) i ≡ bit_in (column i words) p
column_at i [] p = bit_of_zero i
column_at i (w ∷ words) zero = refl
column_at i (w ∷ words) (suc p) = column_at i words p

pub words_start : (b : ℕ) (gates : List Gate) (words : List ℕ) → gates ≡ [] → words ≡ [] → AreWords gates b words
words_start b gates words e f = λ i l. ap (column i) f ∙ ap (gate_bits (64 * b + i)) (sym e)

-- one more gate and word
pub words_next : (b : ℕ) (gates more : List Gate) (g : Gate) (words new : List ℕ) (w : ℕ) → AreWords gates b words → more ≡ gates ++ g ∷ [] → new ≡ words ++ w ∷ []
    → ((i : ℕ) → i < 64 → bit_of_number w i ≡ gate_bit (64 * b + i) (column i words) g) → AreWords more b new
words_next b gates more g words new w a m n h = λ i l.
    let e : column i words ≡ gate_bits (64 * b + i) gates = a i l in
    let f : bit_of_number w i ≡ gate_bit (64 * b + i) (gate_bits (64 * b + i) gates) g = h i l ∙ ap (λ bs. gate_bit (64 * b + i) bs g) e in
    ap (column i) n ∙ map_push (λ v. bit_of_number v i) words w ∙ (λ j. e j ++ f j ∷ [])
    ∙ sym (behind_push (64 * b + i) [] gates g) ∙ ap (gate_bits (64 * b + i)) (sym m)

-- ---- what a gate gives, bit by bit

module _ (i : ℕ) (words : List ℕ) where
  placed : (a x : ℕ) → x ≡ slice_index words a → bit_of_number x i ≡ bit_in (column i words) a
  placed a x p = ap (λ w. bit_of_number w i) p ∙ column_at i words a

  module _ (n : ℕ) (g : Gate) where
    pub and_gate : (a b x y : ℕ) → g ≡ gate.And a b → x ≡ slice_index words a → y ≡ slice_index words b → bit_of_number (bit_and x y) i ≡ gate_bit n (column i words) g
    and_gate a b x y e p q =
        let s = placed a x p in let t = placed b y q in
        bit_of_and x y i ∙ (λ j. s j && t j) ∙ ap (gate_bit n (column i words)) (sym e)

    pub or_gate : (a b x y : ℕ) → g ≡ gate.Or a b → x ≡ slice_index words a → y ≡ slice_index words b → bit_of_number (bit_or x y) i ≡ gate_bit n (column i words) g
    or_gate a b x y e p q =
        let s = placed a x p in let t = placed b y q in
        bit_of_or x y i ∙ (λ j. s j || t j) ∙ ap (gate_bit n (column i words)) (sym e)

    pub differ_gate : (a b x y : ℕ) → g ≡ gate.Differ a b → x ≡ slice_index words a → y ≡ slice_index words b → bit_of_number (bit_xor x y) i ≡ gate_bit n (column i words) g
    differ_gate a b x y e p q =
        let s = placed a x p in let t = placed b y q in
        bit_of_xor x y i ∙ (λ j. differ (s j) (t j)) ∙ ap (gate_bit n (column i words)) (sym e)

    pub same_gate : (a b x y : ℕ) → g ≡ gate.Same a b → x ≡ slice_index words a → y ≡ slice_index words b → not (bit_of_number (bit_xor x y) i) ≡ gate_bit n (column i words) g
    same_gate a b x y e p q =
        let s = placed a x p in let t = placed b y q in
        ap not (bit_of_xor x y i) ∙ (λ j. not (differ (s j) (t j))) ∙ ap (gate_bit n (column i words)) (sym e)

    pub choice_gate : (c f t x y z : ℕ) → g ≡ gate.Choice c f t → x ≡ slice_index words c → y ≡ slice_index words f → z ≡ slice_index words t
        → (if bit_of_number x i then bit_of_number z i else bit_of_number y i) ≡ gate_bit n (column i words) g
    choice_gate c f t x y z e p q r =
        let s = placed c x p in let u = placed f y q in let v = placed t z r in
        (λ j. if s j then v j else u j) ∙ ap (gate_bit n (column i words)) (sym e)

-- ---- the blocks one by one

before_or_not : (n m : ℕ) → (n < m) ⊎ (m ≤ n)
before_or_not n m = elim (cases_Bool (nat_lt n m)) [ inl e ↦ inl (ltb-true n m e) | inr e ↦ inr (grind (arith, nat_tests, e)) ]

module _ (gates : List Gate) (a b : ℕ) where
  -- the same at the numbers of the first blocks
  bits_same : (block : ℕ) (words : List ℕ) → AreWords gates block words → (i : ℕ) → i < 64 → slice_index words a ≡ slice_index words b
      → bit_in (gate_bits (64 * block + i) gates) a ≡ bit_in (gate_bits (64 * block + i) gates) b
  bits_same block words h i l e =
      ap (λ bs. bit_in bs a) (sym (h i l)) ∙ sym (column_at i words a) ∙ ap (λ w. bit_of_number w i) e ∙ column_at i words b ∙ ap (λ bs. bit_in bs b) (h i l)

  pub same_next : (block : ℕ) (words : List ℕ) → AreWords gates block words → slice_index words a ≡ slice_index words b → AreSame gates a b block → AreSame gates a b (block + 1)
  same_next block words h e s = λ n l. at n l (before_or_in n block l)
    where
      before_or_in : (n m : ℕ) → n < 64 * (m + 1) → (n < 64 * m) ⊎ ((i : ℕ) × (i < 64) × (64 * m + i ≡ n))
      before_or_in n m l = elim (before_or_not n (64 * m)) [ inl k ↦ inl k | inr k ↦ inr (n - 64 * m, omega arith, omega arith) ]

      at : (n : ℕ) → n < 64 * (block + 1) → (n < 64 * block) ⊎ ((i : ℕ) × (i < 64) × (64 * block + i ≡ n)) → bit_in (gate_bits n gates) a ≡ bit_in (gate_bits n gates) b
      at n l (inl k) = s n k
      at n l (inr (i, k, q)) = ap (λ m. bit_in (gate_bits m gates) a) (sym q) ∙ bits_same block words h i k e ∙ ap (λ m. bit_in (gate_bits m gates) b) q

  -- words that differ show a number at which the gates do
  pub same_fails : (block blocks : ℕ) (words : List ℕ) → AreWords gates block words → block < blocks → slice_index words a < 2 ^ 64 → slice_index words b < 2 ^ 64 → AreSame gates a b blocks
      → slice_index words a ≡ slice_index words b
  same_fails block blocks words h l x y s = same_words (slice_index words a) (slice_index words b) x y (λ i k.
      column_at i words a ∙ ap (λ bs. bit_in bs a) (h i k) ∙ s (64 * block + i) (omega arith) ∙ ap (λ bs. bit_in bs b) (sym (h i k)) ∙ sym (column_at i words b))
