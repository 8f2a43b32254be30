-- Two lists of ranges that are apart and have the same bits are one.
use Rattle.std.proofs.Common.{◌≡◌, ℕ, ◌+◌, ◌<◌, ◌≤◌, Bool, true, false, ◌&&◌, ◌||◌, nat_eq, nat_le, nat_lt, List, [], ◌∷◌, refl, sym, ap, ◌∙◌, subst, arith, zero, suc, inl, inr}
use Rattle.std.specs.List.{list_all}
use Rattle.std.proofs.lemmas.Bool.Decides.{nat_tests}
use Rattle.std.proofs.lemmas.Bool.{or_left, or_cases}
use Rattle.std.specs.Cmp.{first_so, second_so, both_ways}
use Rattle.lh_types.specs.Types.{bit_count}
use Rattle.lh_term.specs.declared.part.Part.{Part}
use Rattle.lh_term_cover.specs.declared.runs.CoverRun.{CoverRun}
use Rattle.lh_term_cover.specs.declared.Cover.{Cover}
use Rattle.lh_term_cover.specs.Bits.{has_bit, is_waited, are_waited, covers, same_bits}
use Rattle.lh_term_cover.specs.Runs.{in_run, in_runs, RunIsBeforeAll, AreApart, IsCover, same_runs}
use Rattle.lh_term_cover.proofs.Within.{in_one, beyond}

-- ---- the ranges are told by the bits

abbrev pub Alike : List CoverRun → List CoverRun → Type 0
Alike rs ss = (a b : ℕ) → in_runs rs a b ≡ in_runs ss a b

own_first : (r : CoverRun) → r.lo < r.end → in_run r r.arg r.lo ≡ true
own_first r f = own r.arg r.lo r.end f
  where
    own : (a l e : ℕ) → l < e → (nat_eq a a && (nat_le l l && nat_lt l e)) ≡ true
    own a l e f = grind (arith, nat_tests)

-- a bit of ranges is not before the first
pub record NotBefore (r : CoverRun) (a b : ℕ) : Type 0 where
  pub arg : r.arg ≤ a
  pub lo : r.arg ≡ a → r.lo ≤ b

not_before : (r : CoverRun) (rs : List CoverRun) (a b : ℕ) → r.lo < r.end → RunIsBeforeAll r rs → in_runs (r ∷ rs) a b ≡ true → NotBefore r a b
not_before r rs a b f h e = elim (or_cases (in_run r a b) (in_runs rs a b) e) [
  | inl i ↦ let m = in_one r.arg r.lo r.end a b i in record { arg = omega (arith, m.0); lo = λ k. m.1 }
  | inr i ↦ record { arg = higher rs h i; lo = λ k. let m : r.end < b = beyond r rs a b h k i in omega arith }
]
  where
    higher : (ss : List CoverRun) → RunIsBeforeAll r ss → in_runs ss a b ≡ true → r.arg ≤ a
    higher [] h i = cc
    higher (s ∷ ss) h i = elim (or_cases (in_run s a b) (in_runs ss a b) i) [
      | inl k ↦ let m = in_one s.arg s.lo s.end a b k in omega (arith, m.0, h.0.arg)
      | inr k ↦ higher ss h.1 k
    ]

-- of two lists with the same bits, the first ranges begin at one bit ..
starts_alike : (r s : CoverRun) (rs ss : List CoverRun) → AreApart (r ∷ rs) → AreApart (s ∷ ss) → Alike (r ∷ rs) (s ∷ ss) → (r.arg ≡ s.arg) × (r.lo ≡ s.lo)
starts_alike r s rs ss p q e =
    let m = not_before s ss r.arg r.lo q.0 q.1 (sym (e r.arg r.lo) ∙ or_left _ (in_runs rs r.arg r.lo) (own_first r p.0)) in
    let n = not_before r rs s.arg s.lo p.0 p.1 (e s.arg s.lo ∙ or_left _ (in_runs ss s.arg s.lo) (own_first s q.0)) in
    let a : r.arg ≡ s.arg = omega (arith, m.arg, n.arg) in
    (a, omega (arith, a, m.lo, n.lo))

-- .. and end at one
ends_by : (r s : CoverRun) (rs ss : List CoverRun) → AreApart (r ∷ rs) → AreApart (s ∷ ss) → Alike (r ∷ rs) (s ∷ ss) → r.arg ≡ s.arg → r.lo ≡ s.lo → s.end ≤ r.end
ends_by r s rs ss p q e a l = at (nat_lt r.end s.end) refl
  where
    inside : (sa sl se re : ℕ) → nat_lt re se ≡ true → sl < re → (nat_eq sa sa && (nat_le sl re && nat_lt re se)) ≡ true
    inside sa sl se re h k = grind (arith, nat_tests)

    le_from : (x y : ℕ) → nat_lt x y ≡ false → y ≤ x
    le_from x y h = grind (arith, nat_tests)

    at : (x : Bool) → nat_lt r.end s.end ≡ x → s.end ≤ r.end
    at false h = le_from r.end s.end h
    at true h =
        let i : in_runs (r ∷ rs) s.arg r.end ≡ true = e s.arg r.end ∙ or_left _ (in_runs ss s.arg r.end) (inside s.arg s.lo s.end r.end h (omega (arith, p.0, l))) in
        elim (or_cases (in_run r s.arg r.end) (in_runs rs s.arg r.end) i) [
          | inl k ↦ let m = in_one r.arg r.lo r.end s.arg r.end k in absurd (omega (arith, m.2))
          | inr k ↦ let m : r.end < r.end = beyond r rs s.arg r.end p.1 a k in absurd (omega arith)
        ]

not_later : (r : CoverRun) (rs : List CoverRun) (a b : ℕ) → RunIsBeforeAll r rs → in_run r a b ≡ true → in_runs rs a b ≡ false
not_later r rs a b h i = at (in_runs rs a b) refl
  where
    at : (x : Bool) → in_runs rs a b ≡ x → x ≡ false
    at false e = refl
    at true e = let m = in_one r.arg r.lo r.end a b i in let n : r.end < b = beyond r rs a b h m.0 e in absurd (omega (arith, m.2))

rest_alike : (r : CoverRun) (rs ss : List CoverRun) → RunIsBeforeAll r rs → RunIsBeforeAll r ss → Alike (r ∷ rs) (r ∷ ss) → Alike rs ss
rest_alike r rs ss p q e a b = at (in_run r a b) refl (e a b)
  where
    at : (x : Bool) → in_run r a b ≡ x → (x || in_runs rs a b) ≡ (x || in_runs ss a b) → in_runs rs a b ≡ in_runs ss a b
    at true i k = not_later r rs a b p i ∙ sym (not_later r ss a b q i)
    at false i k = k

pub alike : (rs ss : List CoverRun) → AreApart rs → AreApart ss → Alike rs ss → rs ≡ ss
alike [] [] p q e = refl
alike [] (s ∷ ss) p q e = let k : false ≡ true = e s.arg s.lo ∙ or_left _ (in_runs ss s.arg s.lo) (own_first s q.0) in cc
alike (r ∷ rs) [] p q e = let k : false ≡ true = sym (e r.arg r.lo) ∙ or_left _ (in_runs rs r.arg r.lo) (own_first r p.0) in cc
alike (r ∷ rs) (s ∷ ss) p q e =
    let b = starts_alike r s rs ss p q e in
    let f : Alike (s ∷ ss) (r ∷ rs) = λ a k. sym (e a k) in
    let c : r.end ≡ s.end = omega (arith, ends_by r s rs ss p q e b.0 b.1, ends_by s r ss rs q p f (sym b.0) (sym b.1)) in
    let same : r ≡ s = λ i. record { arg = b.0 i; lo = b.1 i; end = c i } in
    let q' : AreApart (r ∷ ss) = subst (λ (x : CoverRun). AreApart (x ∷ ss)) (sym same) q in
    let e' : Alike (r ∷ rs) (r ∷ ss) = subst (λ (x : CoverRun). Alike (r ∷ rs) (x ∷ ss)) (sym same) e in
    λ i. same i ∷ alike rs ss p.2 q'.2 (rest_alike r rs ss p.1 q'.1 e') i

-- ---- the definition says the same

waited_alike : (ps qs : List Part) → ((a b : ℕ) → is_waited ps a b ≡ is_waited qs a b) → (a lo n : ℕ) → are_waited ps a lo n ≡ are_waited qs a lo n
waited_alike ps qs h a lo zero = refl
waited_alike ps qs h a lo (suc n) = rw (h a (lo + n), waited_alike ps qs h a lo n) refl

own_bits : (qs : List Part) (q : Part) (n : ℕ) → n ≤ bit_count q.ty → ((a b : ℕ) → has_bit q a b ≡ true → is_waited qs a b ≡ true) → are_waited qs q.arg q.lo n ≡ true
own_bits qs q zero l h = refl
own_bits qs q (suc n) l h = both _ _ (h q.arg (q.lo + n) (own q.arg q.lo n (bit_count q.ty) l)) (own_bits qs q n (omega arith) h)
  where
    own : (a lo n m : ℕ) → suc n ≤ m → (nat_eq a a && (nat_le lo (lo + n) && nat_lt (lo + n) (lo + m))) ≡ true
    own a lo n m l = grind (arith, nat_tests)

    both : (x y : Bool) → x ≡ true → y ≡ true → (x && y) ≡ true
    both x y p q = rw (p, q) refl

covers_each : (ps qs : List Part) → ((a b : ℕ) → is_waited qs a b ≡ true → is_waited ps a b ≡ true) → list_all (covers ps) qs ≡ true
covers_each ps [] h = refl
covers_each ps (q ∷ qs) h = both _ _ (own_bits ps q (bit_count q.ty) (omega arith) (λ a b e. h a b (or_left _ (is_waited qs a b) e))) (covers_each ps qs (λ a b e. h a b (or_right _ _ e)))
  where
    both : (x y : Bool) → x ≡ true → y ≡ true → (x && y) ≡ true
    both x y p q = rw (p, q) refl

    or_right : (x y : Bool) → y ≡ true → (x || y) ≡ true
    or_right true y e = refl
    or_right false y e = e

one_waited : (ps : List Part) (a lo n b : ℕ) → are_waited ps a lo n ≡ true → lo ≤ b → b < lo + n → is_waited ps a b ≡ true
one_waited ps a lo zero b e l h = absurd (omega arith)
one_waited ps a lo (suc n) b e l h =
    elim (nat_eq b (lo + n)) as (λ x. nat_eq b (lo + n) ≡ x → is_waited ps a b ≡ true) [
      | true ↦ λ k. subst (λ (y : ℕ). is_waited ps a y ≡ true) (same b (lo + n) k) (first_so _ _ e)
      | false ↦ λ k. one_waited ps a lo n b (second_so _ _ e) l (less b (lo + n) k (omega (arith, h)))
    ] refl
  where
    same : (x y : ℕ) → nat_eq x y ≡ true → y ≡ x
    same x y k = grind (arith, nat_tests)

    less : (x y : ℕ) → nat_eq x y ≡ false → x < suc y → x < y
    less x y k l = grind (arith, nat_tests)

waited_by : (ps qs : List Part) (a b : ℕ) → list_all (covers ps) qs ≡ true → is_waited qs a b ≡ true → is_waited ps a b ≡ true
waited_by ps [] a b e i = cc
waited_by ps (q ∷ qs) a b e i = elim (or_cases (has_bit q a b) (is_waited qs a b) i) [
  | inl k ↦
      let m = in_one q.arg q.lo (q.lo + bit_count q.ty) a b k in
      subst (λ (x : ℕ). is_waited ps x b ≡ true) m.0 (one_waited ps q.arg q.lo (bit_count q.ty) b (first_so _ _ e) m.1 m.2)
  | inr k ↦ waited_by ps qs a b (second_so _ _ e) k
]

pub bits_alike : (ps qs : List Part) → same_bits ps qs ≡ true → (a b : ℕ) → is_waited ps a b ≡ is_waited qs a b
bits_alike ps qs e a b = both_ways _ _ (waited_by qs ps a b (second_so _ _ e)) (waited_by ps qs a b (first_so _ _ e))

pub alike_bits : (ps qs : List Part) → ((a b : ℕ) → is_waited ps a b ≡ is_waited qs a b) → same_bits ps qs ≡ true
alike_bits ps qs h = both _ _ (covers_each ps qs (λ a b e. h a b ∙ e)) (covers_each qs ps (λ a b e. sym (h a b) ∙ e))
  where
    both : (x y : Bool) → x ≡ true → y ≡ true → (x && y) ≡ true
    both x y p q = rw (p, q) refl

same_runs-is : (rs ss : List CoverRun) → same_runs rs ss ≡ true → rs ≡ ss
same_runs-is [] [] e = refl
same_runs-is (r ∷ rs) (s ∷ ss) e =
    let one = same_one r.arg r.lo r.end s.arg s.lo s.end (first_so _ _ e) in
    λ i. record { arg = one.0 i; lo = one.1 i; end = one.2 i } ∷ same_runs-is rs ss (second_so _ _ e) i
  where
    same_one : (a l e b m f : ℕ) → (nat_eq a b && (nat_eq l m && nat_eq e f)) ≡ true → (a ≡ b) × (l ≡ m) × (e ≡ f)
    same_one a l e b m f h = (grind (arith, nat_tests), grind (arith, nat_tests), grind (arith, nat_tests))
same_runs-is _ _ e = cc

same_runs-refl : (rs : List CoverRun) → same_runs rs rs ≡ true
same_runs-refl [] = refl
same_runs-refl (r ∷ rs) = both _ _ (same_one r.arg r.lo r.end) (same_runs-refl rs)
  where
    same_one : (a l e : ℕ) → (nat_eq a a && (nat_eq l l && nat_eq e e)) ≡ true
    same_one a l e = grind (arith, nat_tests)

    both : (x y : Bool) → x ≡ true → y ≡ true → (x && y) ≡ true
    both x y p q = rw (p, q) refl

-- ranges are one exactly where the lists of parts have the same bits
pub told : (c d : Cover) (ps qs : List Part) (same : Bool) → same ≡ same_runs c.runs.items d.runs.items → IsCover c ps → IsCover d qs → same ≡ same_bits ps qs
told c d ps qs same t p q =
    both_ways _ _
    (λ e. alike_bits ps qs (λ a b. sym (p.bits a b) ∙ ap (λ (rs : List CoverRun). in_runs rs a b) (same_runs-is c.runs.items d.runs.items (sym t ∙ e)) ∙ q.bits a b))
    (λ e.
    let k : c.runs.items ≡ d.runs.items = alike c.runs.items d.runs.items p.apart q.apart (λ a b. p.bits a b ∙ bits_alike ps qs e a b ∙ sym (q.bits a b)) in
    t ∙ ap (same_runs c.runs.items) (sym k) ∙ same_runs-refl c.runs.items)
