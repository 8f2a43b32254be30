-- Runs by instants are in order of their instants, and none of the lists is empty.
use Rattle.std.proofs.Common.{◌≡◌, ℕ, ◌+◌, ◌<◌, List, [], ◌∷◌, ◌++◌, Bool, true, Result, Ok, Err, IfOk, refl, ap, sym, ◌∙◌, subst, append_assoc}
use Rattle.std.proofs.lemmas.List.{append-nil, map-append}
use Rattle.std.specs.declared.cmp.Ordering.{Ordering}
use Rattle.std.specs.declared.cmp.Ordering.TheVariants.{Less, Equal, Greater}
use Rattle.std.specs.Ordering.{ordering_then, is_lt, nat_cmp}
use Rattle.std.proofs.lemmas.Cmp.{tied_itself}
use Rattle.lh_time.specs.declared.Instant.{Instant}
use Rattle.lh_time.specs.Order.{instant_cmp, instant_lt}
use Rattle.lh_time.proofs.OrderLemmas.{instant_cmp_total, nat_is_less}
use Rattle.lh_types.specs.Wish.{Wish, due_bit, IsInOrder, bits_due, writes_wish}
use Rattle.lh_history_laws.proofs.Instants.{instant_one}
use Rattle.lh_eval_wishes.specs.declared.run.WishRun.{WishRun}
use Rattle.lh_bits.specs.Writes.{numbered}
use Rattle.lh_eval_wishes.specs.Grouped.{is_filled, BitsRise, IsGrouped, Apart}
use Rattle.lh_eval_wishes.specs.Runs.{row_wish, run_wish}
use Rattle.lh_eval_wishes.proofs.RunLemmas.{all-right, ordered-right}

-- ---- what is written

row-due : (t : Instant) (lo : ℕ) (bs : List Bool) → bits_due t (numbered lo bs) ≡ row_wish t lo bs
row-due t lo [] = refl
row-due t lo (b ∷ bs) = ap (λ w. (due_bit t lo, b) ∷ w) (row-due t (lo + 1) bs)

writes-append : (xs ys : List (Instant × List (ℕ × Bool))) → writes_wish (xs ++ ys) ≡ writes_wish xs ++ writes_wish ys
writes-append [] ys = refl
writes-append (x ∷ xs) ys = ap (λ w. bits_due x.0 x.1 ++ w) (writes-append xs ys) ∙ sym (append_assoc (bits_due x.0 x.1) (writes_wish xs) (writes_wish ys))

writes-last : (xs : List (Instant × List (ℕ × Bool))) (d : Instant × List (ℕ × Bool)) → writes_wish (xs ++ d ∷ []) ≡ writes_wish xs ++ bits_due d.0 d.1
writes-last xs d = writes-append xs (d ∷ []) ∙ ap (λ w. writes_wish xs ++ w) (append-nil (bits_due d.0 d.1))

-- a run at the instant of the last list, and one with a list of its own
pub behind : (xs ys : List (Instant × List (ℕ × Bool))) (d : Instant × List (ℕ × Bool)) (vs : List (ℕ × Bool)) (r : WishRun) → d.0 ≡ r.due → vs ≡ d.1 ++ numbered r.lo r.bits
    → ys ≡ xs ++ (d.0, vs) ∷ [] → writes_wish ys ≡ writes_wish (xs ++ d ∷ []) ++ run_wish r
behind xs ys d vs r p e h =
    ap writes_wish h ∙ writes-last xs (d.0, vs)
    ∙ ap (λ w. writes_wish xs ++ w) (ap (bits_due d.0) e ∙ map-append _ d.1 (numbered r.lo r.bits) ∙ ap (λ w. bits_due d.0 d.1 ++ w) (row-due d.0 r.lo r.bits))
    ∙ sym (append_assoc (writes_wish xs) (bits_due d.0 d.1) (row_wish d.0 r.lo r.bits))
    ∙ ap (λ w. w ++ row_wish d.0 r.lo r.bits) (sym (writes-last xs d))
    ∙ ap (λ (t : Instant). writes_wish (xs ++ d ∷ []) ++ row_wish t r.lo r.bits) p

pub alone : (zs ys : List (Instant × List (ℕ × Bool))) (r : WishRun) → ys ≡ zs ++ (r.due, numbered r.lo r.bits) ∷ [] → writes_wish ys ≡ writes_wish zs ++ run_wish r
alone zs ys r h = ap writes_wish h ∙ writes-last zs (r.due, numbered r.lo r.bits) ∙ ap (λ w. writes_wish zs ++ w) (row-due r.due r.lo r.bits)

-- ---- no list is empty, and no two at one instant

filled-right : {X : Type 0} (xs ys : List X) → is_filled ys ≡ true → is_filled (xs ++ ys) ≡ true
filled-right [] ys h = h
filled-right (x ∷ xs) ys h = refl

filled-row : (lo : ℕ) (bs : List Bool) → is_filled bs ≡ true → is_filled (numbered lo bs) ≡ true
filled-row lo [] h = cc
filled-row lo (b ∷ bs) h = refl

apart-last : (xs : List (Instant × List (ℕ × Bool))) (d : Instant × List (ℕ × Bool)) (vs : List (ℕ × Bool)) → Apart (xs ++ d ∷ []) → is_filled vs ≡ true → Apart (xs ++ (d.0, vs) ∷ [])
apart-last [] d vs h f = f
apart-last (x ∷ []) d vs h f = (h.0, h.1, f)
apart-last (x ∷ y ∷ more) d vs h f = (h.0, h.1, apart-last (y ∷ more) d vs h.2 f)

apart-new : (xs : List (Instant × List (ℕ × Bool))) (d n : Instant × List (ℕ × Bool)) → Apart (xs ++ d ∷ []) → (d.0 ≡ n.0 → ⊥) → is_filled n.1 ≡ true → Apart ((xs ++ d ∷ []) ++ n ∷ [])
apart-new [] d n h e f = (h, e, f)
apart-new (x ∷ []) d n h e f = (h.0, h.1, (h.2, e, f))
apart-new (x ∷ y ∷ more) d n h e f = (h.0, h.1, apart-new (y ∷ more) d n h.2 e f)

pub behind-apart : (xs ys : List (Instant × List (ℕ × Bool))) (d : Instant × List (ℕ × Bool)) (vs : List (ℕ × Bool)) (r : WishRun) → is_filled r.bits ≡ true → vs ≡ d.1 ++ numbered r.lo r.bits
    → ys ≡ xs ++ (d.0, vs) ∷ [] → Apart (xs ++ d ∷ []) → Apart ys
behind-apart xs ys d vs r f e h a = subst Apart (sym h) (apart-last xs d vs a (ap is_filled e ∙ filled-right d.1 (numbered r.lo r.bits) (filled-row r.lo r.bits f)))

pub afresh-apart : (xs zs ys : List (Instant × List (ℕ × Bool))) (d : Instant × List (ℕ × Bool)) (r : WishRun) → is_filled r.bits ≡ true → (d.0 ≡ r.due → ⊥) → zs ≡ xs ++ d ∷ []
    → ys ≡ zs ++ (r.due, numbered r.lo r.bits) ∷ [] → Apart (xs ++ d ∷ []) → Apart ys
afresh-apart xs zs ys d r f n e h a =
    subst Apart (sym (h ∙ ap (λ (l : List (Instant × List (ℕ × Bool))). l ++ (r.due, numbered r.lo r.bits) ∷ []) e)) (apart-new xs d (r.due, numbered r.lo r.bits) a n (filled-row r.lo r.bits f))

pub first-apart : (zs ys : List (Instant × List (ℕ × Bool))) (r : WishRun) → is_filled r.bits ≡ true → zs ≡ [] → ys ≡ zs ++ (r.due, numbered r.lo r.bits) ∷ [] → Apart ys
first-apart zs ys r f e h = subst Apart (sym (h ∙ ap (λ (l : List (Instant × List (ℕ × Bool))). l ++ (r.due, numbered r.lo r.bits) ∷ []) e)) (filled-row r.lo r.bits f)

-- ---- the order of entries

less-instant : (t u : Instant) (i j : ℕ) → ordering_then (instant_cmp t u) (nat_cmp i j) ≡ Less → (t ≡ u → ⊥) → instant_lt t u ≡ true
less-instant t u i j h n = at (instant_cmp t u) refl h
  where
    at : (o : Ordering) → instant_cmp t u ≡ o → ordering_then o (nat_cmp i j) ≡ Less → instant_lt t u ≡ true
    at Less e g = ap is_lt e
    at Equal e g = absurd (n (instant_one t u e))
    at Greater e g = cc

first-before : (t u : Instant) (ds es : List (ℕ × Bool)) (rest : Wish) → is_filled ds ≡ true → is_filled es ≡ true → (t ≡ u → ⊥) → IsInOrder (bits_due t ds ++ (bits_due u es ++ rest))
    → instant_lt t u ≡ true
first-before t u [] es rest f g n s = cc
first-before t u (d ∷ ds) [] rest f g n s = cc
first-before t u (d ∷ ds) (e ∷ es) rest f g n s = less-instant t u d.0 e.0 (all-right (due_bit t d.0) (bits_due t ds) (bits_due u (e ∷ es) ++ rest) s.0).0 n

less-bit : (t : Instant) (i j : ℕ) → ordering_then (instant_cmp t t) (nat_cmp i j) ≡ Less → i < j
less-bit t i j h = nat_is_less i j (sym (ap (λ (o : Ordering). ordering_then o (nat_cmp i j)) (tied_itself instant_cmp_total t)) ∙ h)

bits-rise : (t : Instant) (ws : List (ℕ × Bool)) (rest : Wish) → IsInOrder (bits_due t ws ++ rest) → BitsRise ws
bits-rise t [] rest s = tt
bits-rise t (w ∷ []) rest s = (tt, tt)
bits-rise t (w ∷ v ∷ more) rest s = (less-bit t w.0 v.0 s.0.0, bits-rise t (v ∷ more) rest s.1)

apart-first : (e : Instant × List (ℕ × Bool)) (more : List (Instant × List (ℕ × Bool))) → Apart (e ∷ more) → is_filled e.1 ≡ true
apart-first e [] a = a
apart-first e (x ∷ more) a = a.0

pub grouped-of : (ws : List (Instant × List (ℕ × Bool))) → Apart ws → IsInOrder (writes_wish ws) → IsGrouped ws
grouped-of [] a s = tt
grouped-of (d ∷ []) a s = (a, bits-rise d.0 d.1 [] s, tt, tt)
grouped-of (d ∷ e ∷ more) a s = (
  a.0,
  bits-rise d.0 d.1 (writes_wish (e ∷ more)) s,
  first-before d.0 e.0 d.1 e.1 (writes_wish more) a.0 (apart-first e more a.2) a.1 s,
  grouped-of (e ∷ more) a.2 (ordered-right (bits_due d.0 d.1) (writes_wish (e ∷ more)) s),
)

pub grouped-result : {E : Type 0} (r : Result (List (Instant × List (ℕ × Bool))) E) (w : Wish) → IsInOrder w → IfOk r (λ ws. writes_wish ws ≡ w) → IfOk r Apart → IfOk r IsGrouped
grouped-result (Ok ws) w s e a = grouped-of ws a (subst IsInOrder (sym e) s)
grouped-result (Err e) w s p a = p
