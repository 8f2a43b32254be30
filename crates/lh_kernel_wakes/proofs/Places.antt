-- Rising lists with a number put in or taken out at its place.
use Rattle.std.proofs.Common.{arith, ◌≡◌, ℕ, zero, suc, ◌-◌, ◌<◌, ◌≤◌, List, [], ◌∷◌, ◌++◌, length, get_or, take, drop, refl, ap, sym, subst, ◌∙◌, ◌⊎◌, inl, inr}
use Rattle.std.specs.Prelude.{◌≢◌, Result, Ok, Err, MatchResult}
use Rattle.std.specs.List.{insert, remove}
use Rattle.std.specs.List.Sorted.{IsBinarySearchResult}
use Rattle.std.specs.Ordering.{nat_cmp}
use Rattle.std.proofs.lemmas.List.{get_or_default}
use Rattle.std.proofs.lemmas.List.Sorted.{searched}
use Rattle.lh_kernel_wakes.specs.Rising.{IsOneOf, AreAbove, IsRising, HasOneMore, HasOneLess}
use Rattle.lh_time.proofs.OrderLemmas.{nat_less}

-- each number of a list at which each place is above is above
pub all_above : (n : ℕ) (xs : List ℕ) → ((k : ℕ) → k < length xs → n < get_or xs k 0) → AreAbove n xs
all_above n [] h = tt
all_above n (x ∷ xs) h = (h 0 (omega arith), all_above n xs (λ k b. h (suc k) (omega arith)))

above_at : (x : ℕ) (xs : List ℕ) (i : ℕ) → AreAbove x xs → i < length xs → x < get_or xs i 0
above_at x [] i a l = absurd (omega arith)
above_at x (y ∷ ys) zero a l = a.0
above_at x (y ∷ ys) (suc i) a l = above_at x ys i a.1 (omega arith)

pub has_above : (x k : ℕ) (xs : List ℕ) → AreAbove x xs → IsOneOf k xs → x < k
has_above x k [] a h = absurd h
has_above x k (y ∷ ys) a (inl p) = subst (λ z. x < z) p a.0
has_above x k (y ∷ ys) a (inr h) = has_above x k ys a.1 h

rises : (xs : List ℕ) → IsRising xs → (i j : ℕ) → i ≤ j → j < length xs → get_or xs i 0 ≤ get_or xs j 0
rises [] r i j a b = absurd (omega arith)
rises (x ∷ xs) r zero zero a b = omega arith
rises (x ∷ xs) r zero (suc j) a b = let f : x < get_or xs j 0 = above_at x xs j r.0 (omega arith) in omega arith
rises (x ∷ xs) r (suc i) zero a b = absurd (omega arith)
rises (x ∷ xs) r (suc i) (suc j) a b = rises xs r.1 i j (omega arith) (omega arith)

-- what a search of a rising list found
pub found : (xs : List ℕ) (n : ℕ) (r : Result ℕ ℕ) → IsRising xs → IsBinarySearchResult (λ y. nat_cmp y n) xs r →
    MatchResult r (λ i. (i < length xs) × (get_or xs i 0 ≡ n)) (λ i. (i ≤ length xs) × ((k : ℕ) → k < i → get_or xs k 0 < n) × ((k : ℕ) → i ≤ k → k < length xs → n < get_or xs k 0))
found xs n r up s = searched xs n r s (rises xs up)

pub has_at : (n : ℕ) (xs : List ℕ) (i : ℕ) → i < length xs → get_or xs i 0 ≡ n → IsOneOf n xs
has_at n [] i l e = absurd (omega arith)
has_at n (x ∷ xs) zero l e = inl e
has_at n (x ∷ xs) (suc i) l e = inr (has_at n xs i (omega arith) e)

has_none : (n : ℕ) (xs : List ℕ) → ((k : ℕ) → k < length xs → get_or xs k 0 ≢ n) → IsOneOf n xs → ⊥
has_none n [] h p = p
has_none n (x ∷ xs) h (inl p) = h 0 (omega arith) p
has_none n (x ∷ xs) h (inr p) = has_none n xs (λ k l. h (suc k) (omega arith)) p

-- it is not there, where those before its place are less and the others greater
pub absent : (n i : ℕ) (xs : List ℕ) → ((k : ℕ) → k < i → get_or xs k 0 < n) → ((k : ℕ) → i ≤ k → k < length xs → n < get_or xs k 0) → IsOneOf n xs → ⊥
absent n i xs below above = has_none n xs (λ k l e. neither k l e (below k) (above k))
  where
    neither : (k : ℕ) → k < length xs → get_or xs k 0 ≡ n → (k < i → get_or xs k 0 < n) → (i ≤ k → k < length xs → n < get_or xs k 0) → ⊥
    neither k l e b a = grind arith

above_put : (x n i : ℕ) (xs : List ℕ) → AreAbove x xs → x < n → AreAbove x (take i xs ++ n ∷ drop i xs)
above_put x n zero xs a b = (b, a)
above_put x n (suc i) [] a b = (b, tt)
above_put x n (suc i) (y ∷ ys) a b = (a.0, above_put x n i ys a.1 b)

pub rising_put : (n i : ℕ) (xs : List ℕ) → i ≤ length xs → IsRising xs → ((k : ℕ) → k < i → get_or xs k 0 < n) → ((k : ℕ) → i ≤ k → k < length xs → n < get_or xs k 0) →
    IsRising (insert xs i n)
rising_put n zero xs l r below above = (all_above n xs (λ k b. above k (omega arith) b), r)
rising_put n (suc i) [] l r below above = absurd (omega arith)
rising_put n (suc i) (x ∷ xs) l r below above = (
  above_put x n i xs r.0 (below 0 (omega arith)),
  rising_put n i xs (omega arith) r.1 (λ k a. below (suc k) (omega arith)) (λ k a b. above (suc k) (omega arith) (omega arith)),
)

further : (k n x : ℕ) (xs : List ℕ) → (k ≡ n) ⊎ IsOneOf k xs → (k ≡ n) ⊎ IsOneOf k (x ∷ xs)
further k n x xs (inl p) = inl p
further k n x xs (inr h) = inr (inr h)

has_put : (k n i : ℕ) (xs : List ℕ) → IsOneOf k (insert xs i n) → (k ≡ n) ⊎ IsOneOf k xs
has_put k n zero xs (inl p) = inl (sym p)
has_put k n zero xs (inr h) = inr h
has_put k n (suc i) [] (inl p) = inl (sym p)
has_put k n (suc i) [] (inr h) = absurd h
has_put k n (suc i) (x ∷ xs) (inl p) = inr (inl p)
has_put k n (suc i) (x ∷ xs) (inr h) = further k n x xs (has_put k n i xs h)

put_has : (k n i : ℕ) (xs : List ℕ) → (k ≡ n) ⊎ IsOneOf k xs → IsOneOf k (insert xs i n)
put_has k n zero xs (inl p) = inl (sym p)
put_has k n zero xs (inr h) = inr h
put_has k n (suc i) [] (inl p) = inl (sym p)
put_has k n (suc i) [] (inr h) = absurd h
put_has k n (suc i) (x ∷ xs) (inl p) = inr (put_has k n i xs (inl p))
put_has k n (suc i) (x ∷ xs) (inr (inl q)) = inl q
put_has k n (suc i) (x ∷ xs) (inr (inr h)) = inr (put_has k n i xs (inr h))

-- a number put in at any place
pub one_more : (n i : ℕ) (xs : List ℕ) → HasOneMore xs n (insert xs i n)
one_more n i xs k = (has_put k n i xs, put_has k n i xs)

-- a number put in at the end
end_put : (n : ℕ) (xs : List ℕ) → insert xs (length xs) n ≡ xs ++ n ∷ []
end_put n [] = refl
end_put n (x ∷ xs) = ap (λ (l : List ℕ). x ∷ l) (end_put n xs)

pub put_behind : (n i : ℕ) (xs new : List ℕ) → i ≡ length xs → new ≡ xs ++ n ∷ [] → new ≡ insert xs i n
put_behind n i xs new l e = e ∙ sym (end_put n xs) ∙ ap (λ (k : ℕ). insert xs k n) (sym l)

-- a number that was there
pub there_already : (n : ℕ) (xs : List ℕ) → IsOneOf n xs → HasOneMore xs n xs
there_already n xs h k = (λ p. inr p, λ p. either k p)
  where
    either : (k : ℕ) → (k ≡ n) ⊎ IsOneOf k xs → IsOneOf k xs
    either k (inl e) = subst (λ z. IsOneOf z xs) (sym e) h
    either k (inr p) = p

above_cut : (x i : ℕ) (xs : List ℕ) → AreAbove x xs → AreAbove x (remove xs i)
above_cut x zero [] a = tt
above_cut x zero (y ∷ ys) a = a.1
above_cut x (suc i) [] a = tt
above_cut x (suc i) (y ∷ ys) a = (a.0, above_cut x i ys a.1)

pub rising_cut : (i : ℕ) (xs : List ℕ) → IsRising xs → IsRising (remove xs i)
rising_cut zero [] r = tt
rising_cut zero (x ∷ xs) r = r.1
rising_cut (suc i) [] r = tt
rising_cut (suc i) (x ∷ xs) r = (above_cut x i xs r.0, rising_cut i xs r.1)

has_cut : (k i : ℕ) (xs : List ℕ) → IsOneOf k (remove xs i) → IsOneOf k xs
has_cut k zero [] h = h
has_cut k zero (x ∷ xs) h = inr h
has_cut k (suc i) [] h = h
has_cut k (suc i) (x ∷ xs) (inl p) = inl p
has_cut k (suc i) (x ∷ xs) (inr h) = inr (has_cut k i xs h)

other_cut : (k n i : ℕ) (xs : List ℕ) → IsRising xs → i < length xs → get_or xs i 0 ≡ n → IsOneOf k (remove xs i) → k ≢ n
other_cut k n i [] r l e h = absurd (omega arith)
other_cut k n zero (x ∷ xs) r l e h = let f : x < k = has_above x k xs r.0 h in λ p. omega arith
other_cut k n (suc i) (x ∷ xs) r l e (inl p) = let f : x < get_or xs i 0 = above_at x xs i r.0 (omega arith) in λ q. omega arith
other_cut k n (suc i) (x ∷ xs) r l e (inr h) = other_cut k n i xs r.1 (omega arith) e h

cut_has : (k n i : ℕ) (xs : List ℕ) → i < length xs → get_or xs i 0 ≡ n → IsOneOf k xs → k ≢ n → IsOneOf k (remove xs i)
cut_has k n i [] l e h o = absurd h
cut_has k n zero (x ∷ xs) l e (inl p) o = absurd (o (sym p ∙ e))
cut_has k n zero (x ∷ xs) l e (inr h) o = h
cut_has k n (suc i) (x ∷ xs) l e (inl p) o = inl p
cut_has k n (suc i) (x ∷ xs) l e (inr h) o = inr (cut_has k n i xs (omega arith) e h o)

-- a number taken out
pub one_less : (n i : ℕ) (xs : List ℕ) → IsRising xs → i < length xs → get_or xs i 0 ≡ n → HasOneLess xs n (remove xs i)
one_less n i xs r l e k = (λ h. (has_cut k i xs h, other_cut k n i xs r l e h), λ p. cut_has k n i xs l e p.0 p.1)

-- a number that was not there
pub gone_already : (n : ℕ) (xs : List ℕ) → (IsOneOf n xs → ⊥) → HasOneLess xs n xs
gone_already n xs missing k = (λ h. (h, λ e. missing (subst (λ z. IsOneOf z xs) e h)), λ p. p.0)

-- A search of a rising list, seen as `now` and searched as `sought`, has found the number, and it is taken out.
pub found_out : (items now sought new : List ℕ) (n i : ℕ) → items ≡ now → sought ≡ items → IsRising items → IsBinarySearchResult (λ y. nat_cmp y n) sought (Ok i) →
    new ≡ remove items i → HasOneLess now n new
found_out items now sought new n i v w r s e =
    let f : (i < length items) × (get_or items i 0 ≡ n) = found items n (Ok i) r (subst (λ z. IsBinarySearchResult (λ y. nat_cmp y n) z (Ok i)) w s)
    in subst (λ z. HasOneLess z n new) v (subst (λ z. HasOneLess items n z) (sym e) (one_less n i items r f.0 f.1))

-- it has found that the number is there
pub found_there : (items now sought : List ℕ) (n i : ℕ) → items ≡ now → sought ≡ items → IsRising items → IsBinarySearchResult (λ y. nat_cmp y n) sought (Ok i) → IsOneOf n now
found_there items now sought n i v w r s =
    let f : (i < length items) × (get_or items i 0 ≡ n) = found items n (Ok i) r (subst (λ z. IsBinarySearchResult (λ y. nat_cmp y n) z (Ok i)) w s)
    in subst (λ z. IsOneOf n z) v (has_at n items i f.0 f.1)

-- it has found that the number is not there
pub found_missing : (items now sought : List ℕ) (n i : ℕ) → items ≡ now → sought ≡ items → IsRising items → IsBinarySearchResult (λ y. nat_cmp y n) sought (Err i) → IsOneOf n now → ⊥
found_missing items now sought n i v w r s h =
    let f : (i ≤ length items) × ((k : ℕ) → k < i → get_or items k 0 < n) × ((k : ℕ) → i ≤ k → k < length items → n < get_or items k 0) =
    found items n (Err i) r (subst (λ z. IsBinarySearchResult (λ y. nat_cmp y n) z (Err i)) w s)
    in absent n i items f.1 f.2 (subst (λ z. IsOneOf n z) (sym v) h)

-- the number is put in at the place that it has found
pub found_in : (items now sought new : List ℕ) (n i : ℕ) → items ≡ now → sought ≡ items → IsRising items → IsBinarySearchResult (λ y. nat_cmp y n) sought (Err i) →
    new ≡ insert items i n → IsRising new × HasOneMore now n new
found_in items now sought new n i v w r s e =
    let f : (i ≤ length items) × ((k : ℕ) → k < i → get_or items k 0 < n) × ((k : ℕ) → i ≤ k → k < length items → n < get_or items k 0) =
    found items n (Err i) r (subst (λ z. IsBinarySearchResult (λ y. nat_cmp y n) z (Err i)) w s)
    in (
      subst IsRising (sym e) (rising_put n i items f.0 r f.1 f.2),
      subst (λ z. HasOneMore z n new) v (subst (λ z. HasOneMore items n z) (sym e) (one_more n i items)),
    )

-- where the last number is below, the place is at the end
pub place_behind : (xs : List ℕ) (n : ℕ) → IsRising xs → 0 < length xs → get_or xs (length xs - 1) 0 < n → IsBinarySearchResult (λ y. nat_cmp y n) xs (Err (length xs))
place_behind xs n r some below = λ sorted. (
  λ k d low high. let l : get_or xs k d < n = (let e : get_or xs k d ≡ get_or xs k 0 = get_or_default xs k d 0 high in
      let le : get_or xs k 0 ≤ get_or xs (length xs - 1) 0 = rises xs r k (length xs - 1) (omega arith) (omega arith) in omega arith) in nat_less (get_or xs k d) n l,
  λ k d low high. absurd (omega arith),
)

-- the place lies within the list or at its end
pub place_within : (items now sought : List ℕ) (n i : ℕ) → items ≡ now → sought ≡ items → IsRising items → IsBinarySearchResult (λ y. nat_cmp y n) sought (Err i) → i ≤ length items
place_within items now sought n i v w r s = (found items n (Err i) r (subst (λ z. IsBinarySearchResult (λ y. nat_cmp y n) z (Err i)) w s)).0

-- a number is not there, where the last one is below
pub none_above : (items now sought : List ℕ) (n : ℕ) → items ≡ now → sought ≡ items → IsRising items → 0 < length sought → get_or sought (length sought - 1) 0 < n → IsOneOf n now → ⊥
none_above items now sought n v w r some below = found_missing items now sought n (length sought) v w r (place_behind sought n (subst IsRising (sym w) r) some below)

-- the number is put in at the end, where the last one is below
pub put_last : (items now sought new : List ℕ) (n : ℕ) → items ≡ now → sought ≡ items → IsRising items → 0 < length sought → get_or sought (length sought - 1) 0 < n → new ≡ items ++ n ∷ [] →
    (IsRising new × HasOneMore now n new) × (IsOneOf n now → ⊥)
put_last items now sought new n v w r some below e =
    let s = place_behind sought n (subst IsRising (sym w) r) some below in (
      found_in items now sought new n (length sought) v w r s (put_behind n (length sought) items new (ap (λ (xs : List ℕ). length xs) w) e),
      none_above items now sought n v w r some below,
    )
