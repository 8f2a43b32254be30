-- A drive of bits in a row: the entries below it, its own, and the entries above it.
use Rattle.std.proofs.Common.{◌≡◌, ℕ, ◌+◌, ◌<◌, ◌≤◌, List, [], ◌∷◌, ◌++◌, length, Bool, true, false, not, if◌then◌else◌, refl, ap, sym, ◌∙◌, subst, append_assoc, arith}
use Rattle.std.proofs.lemmas.List.{append-nil}
use Rattle.std.proofs.lemmas.List.Elements.{filter-append}
use Rattle.std.specs.declared.cmp.Ordering.{Ordering}
use Rattle.std.specs.declared.cmp.Ordering.TheVariants.{Less, Equal, Greater}
use Rattle.std.specs.Ordering.{is_lt, match_ordering}
use Rattle.std.proofs.lemmas.Cmp.{tied_itself}
use Rattle.lh_time.specs.declared.Instant.{Instant}
use Rattle.lh_time.proofs.OrderLemmas.{instant_cmp_total}
use Rattle.lh_types.specs.Wish.{DueBit, Wish, due_bit_cmp, with_bit, with_bits, due_bit, IsBelow, IsInOrder}
use Rattle.lh_eval_wishes.specs.Runs.{row_wish, is_below, below, above, AllBelow, AllFrom}
use Rattle.lh_history_laws.proofs.DueBits.{due_bit_self, due_bit_one, below_trans, turned, in_order-bit, same-less, next, raised, lowered, risen}

-- what is kept of entries that are all below, or none
pub below-all : (k : DueBit) (w : Wish) → AllBelow k w → below k w ≡ w
below-all k [] h = refl
below-all k (e ∷ es) h = rw h.0 (ap (λ w. e ∷ w) (below-all k es h.1))

pub above-none : (k : DueBit) (w : Wish) → AllBelow k w → above k w ≡ []
above-none k [] h = refl
above-none k (e ∷ es) h = rw h.0 (above-none k es h.1)

pub below-none : (k : DueBit) (w : Wish) → AllFrom k w → below k w ≡ []
below-none k [] h = refl
below-none k (e ∷ es) h = rw h.0 (below-none k es h.1)

pub above-all : (k : DueBit) (w : Wish) → AllFrom k w → above k w ≡ w
above-all k [] h = refl
above-all k (e ∷ es) h = rw h.0 (ap (λ w. e ∷ w) (above-all k es h.1))

pub raised-all : (t : Instant) (i j : ℕ) (w : Wish) → i ≤ j → AllBelow (due_bit t i) w → AllBelow (due_bit t j) w
raised-all t i j [] h a = tt
raised-all t i j (e ∷ es) h a = (raised t i j e.0 h a.0, raised-all t i j es h a.1)

pub lowered-all : (t : Instant) (i j : ℕ) (w : Wish) → i ≤ j → AllFrom (due_bit t j) w → AllFrom (due_bit t i) w
lowered-all t i j [] h a = tt
lowered-all t i j (e ∷ es) h a = (lowered t i j e.0 h a.0, lowered-all t i j es h a.1)

pub from_risen : (k a : DueBit) (w : Wish) → is_lt (due_bit_cmp a k) ≡ false → IsBelow a w → AllFrom k w
from_risen k a [] h x = tt
from_risen k a (e ∷ es) h x = (risen k a e.0 h x.0, from_risen k a es h x.1)

from_next : (t : Instant) (i : ℕ) (w : Wish) → IsBelow (due_bit t i) w → AllFrom (due_bit t (i + 1)) w
from_next t i [] x = tt
from_next t i (e ∷ es) x = (next t i e.0 x.0, from_next t i es x.1)

from_self : (k : DueBit) (w : Wish) → IsBelow k w → AllFrom k w
from_self k w x = from_risen k k w (ap is_lt (due_bit_self k)) x

-- entries in order are those below a key and those from it on
pub parted : (k : DueBit) (w : Wish) → IsInOrder w → below k w ++ above k w ≡ w
parted k [] h = refl
parted k (e ∷ es) h = at (is_below k e) refl (parted k es h.1)
  where
    at : (b : Bool) → is_below k e ≡ b → below k es ++ above k es ≡ es → (if b then e ∷ below k es else below k es) ++ (if not b then e ∷ above k es else above k es) ≡ e ∷ es
    at true p ih = ap (λ w. e ∷ w) ih
    at false p ih =
        let f : AllFrom k es = from_risen k e.0 es p h.0 in
        ap (λ w. w ++ e ∷ above k es) (below-none k es f) ∙ ap (λ w. e ∷ w) (above-all k es f)

-- one more bit is the last below the next one
below-bit : (t : Instant) (i : ℕ) (b : Bool) (w : Wish) → IsInOrder w → below (due_bit t (i + 1)) (with_bit w t i b) ≡ below (due_bit t i) w ++ (due_bit t i, b) ∷ []
below-bit t i b [] h = rw (same-less t t i (i + 1) (tied_itself instant_cmp_total t) (omega arith)) refl
below-bit t i b (e ∷ es) h = at (due_bit_cmp (due_bit t i) e.0) refl (below-bit t i b es h.1)
  where
    less : due_bit_cmp (due_bit t i) (due_bit t (i + 1)) ≡ Less
    less = same-less t t i (i + 1) (tied_itself instant_cmp_total t) (omega arith)

    at : (o : Ordering) → due_bit_cmp (due_bit t i) e.0 ≡ o → below (due_bit t (i + 1)) (with_bit es t i b) ≡ below (due_bit t i) es ++ (due_bit t i, b) ∷ []
        → below (due_bit t (i + 1)) (match_ordering o ((due_bit t i, b) ∷ e ∷ es) ((e.0, b) ∷ es) (e ∷ with_bit es t i b)) ≡ below (due_bit t i) (e ∷ es) ++ (due_bit t i, b) ∷ []
    at Less p ih =
        let x : IsBelow (due_bit t i) (e ∷ es) = (p, below_trans (due_bit t i) e.0 es p h.0) in
        ap (λ o. if is_lt o then (due_bit t i, b) ∷ below (due_bit t (i + 1)) (e ∷ es) else below (due_bit t (i + 1)) (e ∷ es)) less
        ∙ ap (λ w. (due_bit t i, b) ∷ w) (below-none (due_bit t (i + 1)) (e ∷ es) (from_next t i (e ∷ es) x))
        ∙ sym (ap (λ w. w ++ (due_bit t i, b) ∷ []) (below-none (due_bit t i) (e ∷ es) (from_self (due_bit t i) (e ∷ es) x)))
    at Equal p ih =
        let q : e.0 ≡ due_bit t i = sym (due_bit_one (due_bit t i) e.0 p) in
        let x : IsBelow (due_bit t i) es = subst (λ (j : DueBit). IsBelow j es) q h.0 in
        ap (λ j. below (due_bit t (i + 1)) ((j, b) ∷ es)) q
        ∙ ap (λ o. if is_lt o then (due_bit t i, b) ∷ below (due_bit t (i + 1)) es else below (due_bit t (i + 1)) es) less
        ∙ ap (λ w. (due_bit t i, b) ∷ w) (below-none (due_bit t (i + 1)) es (from_next t i es x))
        ∙ sym (ap (λ w. w ++ (due_bit t i, b) ∷ [])
        (below-none (due_bit t i) (e ∷ es) (ap (λ j. is_lt (due_bit_cmp j (due_bit t i))) q ∙ ap is_lt (due_bit_self (due_bit t i)), from_self (due_bit t i) es x)))
    at Greater p ih =
        let q : is_below (due_bit t i) e ≡ true = ap is_lt (turned (due_bit t i) e.0 p) in
        let r : is_below (due_bit t (i + 1)) e ≡ true = raised t i (i + 1) e.0 (omega arith) q in
        ap (λ c. if c then e ∷ below (due_bit t (i + 1)) (with_bit es t i b) else below (due_bit t (i + 1)) (with_bit es t i b)) r
        ∙ ap (λ w. e ∷ w) ih
        ∙ sym (ap (λ c. (if c then e ∷ below (due_bit t i) es else below (due_bit t i) es) ++ (due_bit t i, b) ∷ []) q)

-- and changes nothing from a higher one on
above-bit : (t : Instant) (i j : ℕ) (b : Bool) (w : Wish) → i < j → above (due_bit t j) (with_bit w t i b) ≡ above (due_bit t j) w
above-bit t i j b [] h = rw (same-less t t i j (tied_itself instant_cmp_total t) h) refl
above-bit t i j b (e ∷ es) h = at (due_bit_cmp (due_bit t i) e.0) refl (above-bit t i j b es h)
  where
    less : is_lt (due_bit_cmp (due_bit t i) (due_bit t j)) ≡ true
    less = ap is_lt (same-less t t i j (tied_itself instant_cmp_total t) h)

    dropped : (k : DueBit) (c : Bool) (w : Wish) → is_lt (due_bit_cmp k (due_bit t j)) ≡ true → above (due_bit t j) ((k, c) ∷ w) ≡ above (due_bit t j) w
    dropped k c w p = ap (λ d. if not d then (k, c) ∷ above (due_bit t j) w else above (due_bit t j) w) p

    at : (o : Ordering) → due_bit_cmp (due_bit t i) e.0 ≡ o → above (due_bit t j) (with_bit es t i b) ≡ above (due_bit t j) es
        → above (due_bit t j) (match_ordering o ((due_bit t i, b) ∷ e ∷ es) ((e.0, b) ∷ es) (e ∷ with_bit es t i b)) ≡ above (due_bit t j) (e ∷ es)
    at Less p ih = dropped (due_bit t i) b (e ∷ es) less
    at Equal p ih =
        let q : is_lt (due_bit_cmp e.0 (due_bit t j)) ≡ true = ap (λ k. is_lt (due_bit_cmp k (due_bit t j))) (sym (due_bit_one (due_bit t i) e.0 p)) ∙ less in
        dropped e.0 b es q ∙ sym (dropped e.0 e.1 es q)
    at Greater p ih = ap (λ w. if not (is_below (due_bit t j) e) then e ∷ w else w) ih

-- the entries after a drive
pub driven : (bs : List Bool) (w : Wish) (t : Instant) (lo : ℕ) → IsInOrder w → with_bits w t lo bs ≡ below (due_bit t lo) w ++ (row_wish t lo bs ++ above (due_bit t (lo + length bs)) w)
driven [] w t lo h =
    let n : lo ≡ lo + length {A = Bool} [] = omega arith in
    sym (parted (due_bit t lo) w h) ∙ ap (λ m. below (due_bit t lo) w ++ above (due_bit t m) w) n
driven (b ∷ bs) w t lo h =
    let n : lo + 1 + length bs ≡ lo + length (b ∷ bs) = omega arith in
    driven bs (with_bit w t lo b) t (lo + 1) (in_order-bit w t lo b h)
    ∙ ap (λ v. v ++ (row_wish t (lo + 1) bs ++ above (due_bit t (lo + 1 + length bs)) (with_bit w t lo b))) (below-bit t lo b w h)
    ∙ append_assoc (below (due_bit t lo) w) ((due_bit t lo, b) ∷ []) (row_wish t (lo + 1) bs ++ above (due_bit t (lo + 1 + length bs)) (with_bit w t lo b))
    ∙ ap (λ v. below (due_bit t lo) w ++ ((due_bit t lo, b) ∷ (row_wish t (lo + 1) bs ++ v))) (above-bit t lo (lo + 1 + length bs) b w (omega arith) ∙ ap (λ m. above (due_bit t m) w) n)

-- where the entries of the middle alone can meet the drive
pub spliced : (p m s : Wish) (t : Instant) (lo hi : ℕ) (bs : List Bool) → hi ≡ lo + length bs → IsInOrder (p ++ (m ++ s)) → AllBelow (due_bit t lo) p → AllFrom (due_bit t hi) s
    → with_bits (p ++ (m ++ s)) t lo bs ≡ p ++ (below (due_bit t lo) m ++ (row_wish t lo bs ++ (above (due_bit t hi) m ++ s)))
spliced p m s t lo hi bs e h a b =
    let le : lo ≤ hi = omega arith in
    driven bs (p ++ (m ++ s)) t lo h
    ∙ ap (λ n. below (due_bit t lo) (p ++ (m ++ s)) ++ (row_wish t lo bs ++ above (due_bit t n) (p ++ (m ++ s)))) (sym e)
    ∙ ap (λ v. v ++ (row_wish t lo bs ++ above (due_bit t hi) (p ++ (m ++ s)))) low
    ∙ ap (λ v. (p ++ below (due_bit t lo) m) ++ (row_wish t lo bs ++ v)) high
    ∙ append_assoc p (below (due_bit t lo) m) (row_wish t lo bs ++ (above (due_bit t hi) m ++ s))
  where
    low : below (due_bit t lo) (p ++ (m ++ s)) ≡ p ++ below (due_bit t lo) m
    low =
        let le : lo ≤ hi = omega arith in
        filter-append _ p (m ++ s)
        ∙ ap (λ v. v ++ below (due_bit t lo) (m ++ s)) (below-all (due_bit t lo) p a)
        ∙ ap (λ v. p ++ v) (filter-append _ m s ∙ ap (λ v. below (due_bit t lo) m ++ v) (below-none (due_bit t lo) s (lowered-all t lo hi s le b)) ∙ append-nil (below (due_bit t lo) m))

    high : above (due_bit t hi) (p ++ (m ++ s)) ≡ above (due_bit t hi) m ++ s
    high =
        let le : lo ≤ hi = omega arith in
        filter-append _ p (m ++ s)
        ∙ ap (λ v. v ++ above (due_bit t hi) (m ++ s)) (above-none (due_bit t hi) p (raised-all t lo hi p le a))
        ∙ filter-append _ m s
        ∙ ap (λ v. above (due_bit t hi) m ++ v) (above-all (due_bit t hi) s b)
