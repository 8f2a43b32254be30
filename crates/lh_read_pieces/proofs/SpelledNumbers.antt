-- Numbers and integer constants: what is found is spelled so, and what is spelled so is found.
use Rattle.std.proofs.Common.{◌≡◌, ℕ, ◌-◌, ◌<◌, ◌≤◌, true, List, [], ◌∷◌, Option, Some, None, nat_lt, nat_le, refl, ap, sym, ◌∙◌, subst, arith, inl, inr, lit<}
use Rattle.std.specs.Prelude.{◌%◌, ◌^◌}
use Rattle.std.proofs.lemmas.Grind.{common_steps}
use Rattle.std.proofs.Math.Pow.{pow_mono}
use Rattle.std.proofs.lemmas.Option.{cond_some}
use Rattle.lh_unit.specs.Lexemes.{Lexeme, word, minus}
use Rattle.lh_unit.specs.Numerals.{number_of}
use Rattle.lh_unit.specs.SpellsNumbers.{SpellsNumber, SpellsInteger}
use Rattle.lh_read_pieces.specs.Pieces.{◌>>=◌, any_word_at, minus_at, end_at, below, small, small_number}
use Rattle.lh_read_pieces.specs.Numbers.{number_at, positive_bits, negative_bits, last_number_at, integer_or, integer_at}
use Rattle.lh_read_pieces.specs.Shorter.{bind_some}
use Rattle.lh_read_pieces.proofs.Pieces.{any_word_at-inv, end_at-inv, minus_at-inv, below-inv, below-again, small-inv, small-below}

pub number_at-sound : (ts : List Lexeme) (r : ℕ × List Lexeme) → number_at ts ≡ Some r → SpellsNumber r.0 ts r.1
unfolding number_at
number_at-sound ts r p =
    let a = bind_some (any_word_at ts) _ r p in
    let b = bind_some (below (2 ^ 32) (small_number a.0.0)) _ r a.2 in
    let e : (b.0, a.0.1) ≡ r = cc in
    let w = below-inv (2 ^ 32) (small_number a.0.0) b.0 b.1 in
    let s : SpellsNumber b.0 ts a.0.1 = (a.0.0, any_word_at-inv ts a.0 a.1, small-inv (number_of a.0.0) b.0 w.0, w.1) in
    subst (λ x. SpellsNumber x.0 ts x.1) e s

pub number_at-again : (n : ℕ) (ts us : List Lexeme) → SpellsNumber n ts us → number_at ts ≡ Some (n, us)
unfolding number_at
number_at-again n ts us s =
    let h : n < 2 ^ 128 = omega (arith, s.3) in
    ap number_at s.1
    ∙ ap (λ o. below (2 ^ 32) (small o) >>= λ m. Some (m, us)) s.2
    ∙ ap (λ o. below (2 ^ 32) o >>= λ m. Some (m, us)) (small-below n h)
    ∙ ap (λ o. o >>= λ m. Some (m, us)) (below-again (2 ^ 32) n s.3)

positive-sound : (n : ℕ) (o : Option ℕ) (b : ℕ) → positive_bits n o ≡ Some b → (o ≡ Some b) × (b < 2 ^ n)
positive-sound n None b p = cc
positive-sound n (Some k) b p =
    let g = cond_some (nat_lt k (2 ^ n)) k b p in let t : nat_lt k (2 ^ n) ≡ true = g.0 in let l : k < 2 ^ n = below k (2 ^ n) t in
    (ap Some g.1, subst (λ x. x < 2 ^ n) g.1 l)
  where
    below : (x y : ℕ) → nat_lt x y ≡ true → x < y
    below x y t = grind (arith, common_steps)

negative-sound : (n : ℕ) (o : Option ℕ) (b : ℕ) → negative_bits n o ≡ Some b → (k : ℕ) × (o ≡ Some k) × (k ≤ 2 ^ (n - 1)) × (b ≡ (2 ^ n - k) % (2 ^ n))
negative-sound n None b p = cc
negative-sound n (Some k) b p =
    let g = cond_some (nat_le k (2 ^ (n - 1))) ((2 ^ n - k) % (2 ^ n)) b p in let t : nat_le k (2 ^ (n - 1)) ≡ true = g.0 in
    (k, refl, within k (2 ^ (n - 1)) t, sym g.1)
  where
    within : (x y : ℕ) → nat_le x y ≡ true → x ≤ y
    within x y t = grind (arith, common_steps)

pub last_number_at-inv : (ts : List Lexeme) (k : ℕ) → last_number_at ts ≡ Some k → (w : List ℕ) × (ts ≡ word w ∷ []) × (number_of w ≡ Some k)
last_number_at-inv ts k p =
    let a = bind_some (any_word_at ts) _ k p in
    let e = bind_some (end_at a.0.1) _ k a.2 in
    (a.0.0, any_word_at-inv ts a.0 a.1 ∙ ap (λ l. word a.0.0 ∷ l) (end_at-inv a.0.1 e.0 e.1), small-inv (number_of a.0.0) k e.2)

pub integer_at-sound : (n : ℕ) (ts : List Lexeme) (b : ℕ) → integer_at n ts ≡ Some b → SpellsInteger n b ts
unfolding integer_at
integer_at-sound n ts b p = by (minus_at ts) refl p
  where
    by : (o : Option (List Lexeme)) → minus_at ts ≡ o → integer_or n ts o ≡ Some b → SpellsInteger n b ts
    by None e q = let s = positive-sound n (last_number_at ts) b q in let w = last_number_at-inv ts b s.0 in inl (w.0, w.1, w.2, s.1)
    by (Some us) e q =
        let s = negative-sound n (last_number_at us) b q in let w = last_number_at-inv us s.0 s.1 in
        inr (w.0, s.0, minus_at-inv ts us e ∙ ap (λ l. minus ∷ l) w.1, w.2, s.2, s.3)

positive-again : (n b : ℕ) → n ≤ 128 → b < 2 ^ n → positive_bits n (small (Some b)) ≡ Some b
positive-again n b h l =
    let t : nat_lt b (2 ^ n) ≡ true = below b (2 ^ n) l in
    let u : b < 2 ^ 128 = omega (arith, pow_mono {i = n} {j = 128} h) in
    ap (positive_bits n) (small-below b u) ∙ (rw t refl)
  where
    below : (x y : ℕ) → x < y → nat_lt x y ≡ true
    below x y t = grind (arith, common_steps)

negative-again : (n k : ℕ) → n ≤ 128 → k ≤ 2 ^ (n - 1) → negative_bits n (small (Some k)) ≡ Some ((2 ^ n - k) % (2 ^ n))
negative-again n k h l =
    let t : nat_le k (2 ^ (n - 1)) ≡ true = within k (2 ^ (n - 1)) l in
    let v : 2 ^ 127 < 2 ^ 128 = lit< tt in
    let u : k < 2 ^ 128 = omega (arith, pow_mono {i = n - 1} {j = 127} (omega arith), v) in
    ap (negative_bits n) (small-below k u) ∙ (rw t refl)
  where
    within : (x y : ℕ) → x ≤ y → nat_le x y ≡ true
    within x y t = grind (arith, common_steps)

pub integer_at-again : (n b : ℕ) (ts : List Lexeme) → n ≤ 128 → SpellsInteger n b ts → integer_at n ts ≡ Some b
unfolding integer_at
integer_at-again n b ts h s = elim s [
  | inl p ↦ ap (integer_at n) p.1 ∙ ap (λ o. positive_bits n (small o)) p.2 ∙ positive-again n b h p.3
  | inr p ↦ ap (integer_at n) p.2 ∙ ap (λ o. negative_bits n (small o)) p.3 ∙ negative-again n p.1 h p.4 ∙ ap Some (sym p.5)
]
