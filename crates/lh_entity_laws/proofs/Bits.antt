-- The bits of parts: what a list of parts covers has bits of that list.
use Rattle.std.proofs.Common.{◌≡◌, ◌⊎◌, inl, inr, ℕ, zero, suc, ◌+◌, ◌-◌, ◌<◌, ◌≤◌, List, [], ◌∷◌, ◌++◌, map, Bool, true, false, ◌&&◌, ◌||◌, ◌==◌, nat_eq, nat_le, nat_lt, refl, ap, sym, ◌∙◌, arith}
use Rattle.std.specs.List.{list_all}
use Rattle.std.proofs.lemmas.List.Folds.{list_any-append}
use Rattle.std.proofs.lemmas.Bool.Decides.{nat_tests}
use Rattle.std.specs.Cmp.{both_ways, first_so, second_so}
use Rattle.std.proofs.lemmas.Bool.{or_left, or_right, or_cases}
use Rattle.lh_types.specs.Types.{bit_count}
use Rattle.lh_types.specs.declared.part.Range.{Range}
use Rattle.lh_unit.specs.Within.{Each}
use Rattle.lh_unit.specs.World.{bits_from, bit_numbers}
use Rattle.lh_trace_laws.proofs.BitSets.{has, SameSet, IsWithin}
use Rattle.lh_term.specs.declared.part.Part.{Part}
use Rattle.lh_term_cover.specs.Bits.{has_bit, is_waited, are_waited, covers, same_bits}
use Rattle.lh_region_def.specs.Means.{lowest_bit, range_in}
use Rattle.lh_region_def.specs.Typed.{Among}

-- ---- numbers in a row

record InRow (lo n k : ℕ) : Type 0 where
  low : lo ≤ k
  high : k < lo + n

pub row-has : (lo n k : ℕ) → lo ≤ k → k < lo + n → has (bits_from lo n) k ≡ true
row-has lo zero k l h = absurd (omega (arith, l, h))
row-has lo (suc n) k l h = by (lo == k) refl (λ m. row-has (lo + 1) n k m (omega (arith, h)))
  where
    later : (lo k : ℕ) → (lo == k) ≡ false → lo ≤ k → lo + 1 ≤ k
    later lo k e l = grind (arith, nat_tests)

    by : (b : Bool) → (lo == k) ≡ b → (lo + 1 ≤ k → has (bits_from (lo + 1) n) k ≡ true) → ((lo == k) || has (bits_from (lo + 1) n) k) ≡ true
    by true e go = or_left (lo == k) (has (bits_from (lo + 1) n) k) e
    by false e go = or_right (lo == k) (has (bits_from (lo + 1) n) k) (go (later lo k e l))

row-in : (lo n k : ℕ) → has (bits_from lo n) k ≡ true → InRow lo n k
row-in lo zero k h = cc
row-in lo (suc n) k h = by (or_cases (lo == k) (has (bits_from (lo + 1) n) k) h) (row-in (lo + 1) n k)
  where
    first : (lo k : ℕ) → (lo == k) ≡ true → lo ≡ k
    first lo k e = grind (arith, nat_tests)

    by : ((lo == k) ≡ true) ⊎ (has (bits_from (lo + 1) n) k ≡ true) → (has (bits_from (lo + 1) n) k ≡ true → InRow (lo + 1) n k) → InRow lo (suc n) k
    by (inl e) go = let q : lo ≡ k = first lo k e in record { low = omega (arith, q); high = omega (arith, q) }
    by (inr e) go = let r = go e in record { low = omega (arith, r.low); high = omega (arith, r.high) }

-- ---- parts

module _ (args : List Range) where
  -- the numbers of the bits of parts
  abbrev pub bits_of : List Part → List ℕ
  bits_of ps = bit_numbers (map (range_in args) ps)

  abbrev pub bits_in_part : Part → List ℕ
  bits_in_part p = bits_from (range_in args p).lo (range_in args p).len

  has-split : (p : Part) (ps : List Part) (k : ℕ) → has (bits_of (p ∷ ps)) k ≡ (has (bits_in_part p) k || has (bits_of ps) k)
  has-split p ps k = list_any-append (λ x. x == k) (bits_in_part p) (bits_of ps)

  pub part-within : (p : Part) (ps : List Part) → Among p ps → IsWithin (bits_in_part p) (bits_of ps)
  part-within p [] a k h = absurd a
  part-within p (q ∷ ps) (inl e) k h = has-split q ps k ∙ or_left (has (bits_in_part q) k) (has (bits_of ps) k) (ap (λ x. has (bits_in_part x) k) e ∙ h)
  part-within p (q ∷ ps) (inr a) k h = has-split q ps k ∙ or_right (has (bits_in_part q) k) (has (bits_of ps) k) (part-within p ps a k h)

  pub each-within : (qs ps : List Part) → Each (λ q. IsWithin (bits_in_part q) (bits_of ps)) qs → IsWithin (bits_of qs) (bits_of ps)
  each-within [] ps e k h = cc
  each-within (q ∷ qs) ps e k h = by (or_cases (has (bits_in_part q) k) (has (bits_of qs) k) (sym (has-split q qs k) ∙ h)) (each-within qs ps e.1 k)
    where
      by : (has (bits_in_part q) k ≡ true) ⊎ (has (bits_of qs) k ≡ true) → (has (bits_of qs) k ≡ true → has (bits_of ps) k ≡ true) → has (bits_of ps) k ≡ true
      by (inl x) go = e.0 k x
      by (inr x) go = go x

  -- a bit of an argument that a part has
  waited-has : (ps : List Part) (a b : ℕ) → is_waited ps a b ≡ true → has (bits_of ps) (lowest_bit args a + b) ≡ true
  waited-has [] a b h = cc
  waited-has (p ∷ ps) a b h = has-split p ps (lowest_bit args a + b) ∙ by (or_cases (has_bit p a b) (is_waited ps a b) h) (waited-has ps a b)
    where
      apart : (x a lo b n : ℕ) → (nat_eq x a && (nat_le lo b && nat_lt b (lo + n))) ≡ true → (x ≡ a) × (lo ≤ b) × (b < lo + n)
      apart x a lo b n e = (grind (arith, nat_tests), grind (arith, nat_tests), grind (arith, nat_tests))

      by : (has_bit p a b ≡ true) ⊎ (is_waited ps a b ≡ true) → (is_waited ps a b ≡ true → has (bits_of ps) (lowest_bit args a + b) ≡ true)
          → (has (bits_in_part p) (lowest_bit args a + b) || has (bits_of ps) (lowest_bit args a + b)) ≡ true
      by (inr e) go = or_right (has (bits_in_part p) (lowest_bit args a + b)) (has (bits_of ps) (lowest_bit args a + b)) (go e)
      by (inl e) go =
          let z = apart p.arg a p.lo b (bit_count p.ty) e in
          let low : lowest_bit args p.arg ≡ lowest_bit args a = ap (lowest_bit args) z.0 in
          let zl = z.1 in
          let zh = z.2 in
          or_left (has (bits_in_part p) (lowest_bit args a + b)) (has (bits_of ps) (lowest_bit args a + b))
          (row-has (lowest_bit args p.arg + p.lo) (bit_count p.ty) (lowest_bit args a + b) (omega (arith, low, zl)) (omega (arith, low, zh)))

  all-waited : (ps : List Part) (a lo n b : ℕ) → are_waited ps a lo n ≡ true → lo ≤ b → b < lo + n → is_waited ps a b ≡ true
  all-waited ps a lo zero b h l u = absurd (omega (arith, l, u))
  all-waited ps a lo (suc n) b h l u = by (nat_eq (lo + n) b) refl (all-waited ps a lo n b (second_so (is_waited ps a (lo + n)) (are_waited ps a lo n) h) l)
    where
      last : (x b : ℕ) → nat_eq x b ≡ true → x ≡ b
      last x b e = grind (arith, nat_tests)

      before : (lo n b : ℕ) → nat_eq (lo + n) b ≡ false → b < lo + suc n → b < lo + n
      before lo n b e u = grind (arith, nat_tests)

      by : (x : Bool) → nat_eq (lo + n) b ≡ x → (b < lo + n → is_waited ps a b ≡ true) → is_waited ps a b ≡ true
      by true e go = ap (is_waited ps a) (sym (last (lo + n) b e)) ∙ first_so (is_waited ps a (lo + n)) (are_waited ps a lo n) h
      by false e go = go (before lo n b e u)

  -- a part that is covered has bits of the parts that cover it
  pub covered-within : (ps : List Part) (p : Part) → covers ps p ≡ true → IsWithin (bits_in_part p) (bits_of ps)
  covered-within ps p c k h = at (row-in (lowest_bit args p.arg + p.lo) (bit_count p.ty) k h)
    where
      lower : (m lo k : ℕ) → m + lo ≤ k → (b : ℕ) × (m + b ≡ k) × (lo ≤ b)
      lower m lo k l = (k - m, omega (arith, l), omega (arith, l))

      at : InRow (lowest_bit args p.arg + p.lo) (bit_count p.ty) k → has (bits_of ps) k ≡ true
      at r =
          let z = lower (lowest_bit args p.arg) p.lo k r.low in
          let e = z.1 in
          let l = z.2 in
          let h : k < (lowest_bit args p.arg + p.lo) + bit_count p.ty = r.high in
          ap (has (bits_of ps)) (sym e) ∙ waited-has ps p.arg z.0 (all-waited ps p.arg p.lo (bit_count p.ty) z.0 c l (omega (arith, e, h)))

  pub all-covered : (ps qs : List Part) → list_all (covers ps) qs ≡ true → Each (λ q. covers ps q ≡ true) qs
  all-covered ps [] e = tt
  all-covered ps (q ∷ qs) e = (first_so (covers ps q) (list_all (covers ps) qs) e, all-covered ps qs (second_so (covers ps q) (list_all (covers ps) qs) e))

  each-covered : (ps qs : List Part) → Each (λ q. covers ps q ≡ true) qs → Each (λ q. IsWithin (bits_in_part q) (bits_of ps)) qs
  each-covered ps [] e = tt
  each-covered ps (q ∷ qs) e = (covered-within ps q e.0, each-covered ps qs e.1)

  pub covered-bits : (ps qs : List Part) → Each (λ q. covers ps q ≡ true) qs → IsWithin (bits_of qs) (bits_of ps)
  covered-bits ps qs e = each-within qs ps (each-covered ps qs e)

  each-there : (ps qs : List Part) → Each (λ q. Among q ps) qs → Each (λ q. IsWithin (bits_in_part q) (bits_of ps)) qs
  each-there ps [] e = tt
  each-there ps (q ∷ qs) e = (part-within q ps e.0, each-there ps qs e.1)

  pub there-bits : (ps qs : List Part) → Each (λ q. Among q ps) qs → IsWithin (bits_of qs) (bits_of ps)
  there-bits ps qs e = each-within qs ps (each-there ps qs e)

  -- parts that have the same bits
  pub same-right : (ps qs : List Part) → same_bits ps qs ≡ true → IsWithin (bits_of qs) (bits_of ps)
  same-right ps qs e = covered-bits ps qs (all-covered ps qs (first_so (list_all (covers ps) qs) (list_all (covers qs) ps) e))

  pub same-left : (ps qs : List Part) → same_bits ps qs ≡ true → IsWithin (bits_of ps) (bits_of qs)
  same-left ps qs e = covered-bits qs ps (all-covered qs ps (second_so (list_all (covers ps) qs) (list_all (covers qs) ps) e))

  pub append-within : (ps qs rs : List Part) → IsWithin (bits_of ps) (bits_of rs) → IsWithin (bits_of qs) (bits_of rs) → IsWithin (bits_of (ps ++ qs)) (bits_of rs)
  append-within [] qs rs e f k h = f k h
  append-within (p ∷ ps) qs rs e f k h =
      by (or_cases (has (bits_in_part p) k) (has (bits_of (ps ++ qs)) k) (sym (has-split p (ps ++ qs) k) ∙ h))
      (append-within ps qs rs (λ j y. e j (has-split p ps j ∙ or_right (has (bits_in_part p) j) (has (bits_of ps) j) y)) f k)
    where
      by : (has (bits_in_part p) k ≡ true) ⊎ (has (bits_of (ps ++ qs)) k ≡ true) → (has (bits_of (ps ++ qs)) k ≡ true → has (bits_of rs) k ≡ true) → has (bits_of rs) k ≡ true
      by (inl x) go = e k (has-split p ps k ∙ or_left (has (bits_in_part p) k) (has (bits_of ps) k) x)
      by (inr x) go = go x

  pub left-within : (ps qs : List Part) → IsWithin (bits_of ps) (bits_of (ps ++ qs))
  left-within [] qs k h = cc
  left-within (p ∷ ps) qs k h = has-split p (ps ++ qs) k ∙ by (or_cases (has (bits_in_part p) k) (has (bits_of ps) k) (sym (has-split p ps k) ∙ h)) (left-within ps qs k)
    where
      by : (has (bits_in_part p) k ≡ true) ⊎ (has (bits_of ps) k ≡ true) → (has (bits_of ps) k ≡ true → has (bits_of (ps ++ qs)) k ≡ true)
          → (has (bits_in_part p) k || has (bits_of (ps ++ qs)) k) ≡ true
      by (inl x) go = or_left (has (bits_in_part p) k) (has (bits_of (ps ++ qs)) k) x
      by (inr x) go = or_right (has (bits_in_part p) k) (has (bits_of (ps ++ qs)) k) (go x)

  pub right-within : (ps qs : List Part) → IsWithin (bits_of qs) (bits_of (ps ++ qs))
  right-within [] qs k h = h
  right-within (p ∷ ps) qs k h = has-split p (ps ++ qs) k ∙ or_right (has (bits_in_part p) k) (has (bits_of (ps ++ qs)) k) (right-within ps qs k h)

pub both-within : (xs ys : List ℕ) → IsWithin xs ys → IsWithin ys xs → SameSet xs ys
both-within xs ys e f k = both_ways (has xs k) (has ys k) (e k) (f k)

-- ---- a part of the list is covered

own-bit : (ps : List Part) (p : Part) (b : ℕ) → Among p ps → p.lo ≤ b → b < p.lo + bit_count p.ty → is_waited ps p.arg b ≡ true
own-bit [] p b a l h = absurd a
own-bit (q ∷ ps) p b (inl e) l h = or_left (has_bit q p.arg b) (is_waited ps p.arg b) (ap (λ (x : Part). has_bit x p.arg b) e ∙ here p.arg p.lo b (bit_count p.ty) l h)
  where
    here : (a lo b n : ℕ) → lo ≤ b → b < lo + n → (nat_eq a a && (nat_le lo b && nat_lt b (lo + n))) ≡ true
    here a lo b n l h = grind (arith, nat_tests)
own-bit (q ∷ ps) p b (inr a) l h = or_right (has_bit q p.arg b) (is_waited ps p.arg b) (own-bit ps p b a l h)

own-waited : (ps : List Part) (p : Part) (n : ℕ) → Among p ps → n ≤ bit_count p.ty → are_waited ps p.arg p.lo n ≡ true
own-waited ps p zero a l = refl
own-waited ps p (suc n) a l =
    let here : is_waited ps p.arg (p.lo + n) ≡ true = own-bit ps p (p.lo + n) a (omega arith) (omega (arith, l)) in
    let rest : are_waited ps p.arg p.lo n ≡ true = own-waited ps p n a (omega (arith, l)) in
    ap (λ x. x && are_waited ps p.arg p.lo n) here ∙ rest

pub covers-own : (ps qs : List Part) → ((q : Part) → Among q qs → Among q ps) → Each (λ q. covers ps q ≡ true) qs
covers-own ps [] go = tt
covers-own ps (q ∷ qs) go = (own-waited ps q (bit_count q.ty) (go q (inl refl)) (omega arith), covers-own ps qs (λ x a. go x (inr a)))
