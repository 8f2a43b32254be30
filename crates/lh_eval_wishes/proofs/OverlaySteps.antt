-- What the code does as it puts runs over others.
use Rattle.std.proofs.Common.{◌≡◌, ℕ, ◌+◌, ◌≤◌, List, [], ◌∷◌, ◌++◌, length, Bool, true, false, not, if◌then◌else◌, refl, ap, sym, ◌∙◌, subst, append_assoc}
use Rattle.std.proofs.lemmas.List.{append-nil}
use Rattle.std.proofs.lemmas.List.Elements.{filter-append}
use Rattle.std.specs.declared.cmp.Ordering.{Ordering}
use Rattle.std.specs.declared.cmp.Ordering.TheVariants.{Less, Equal, Greater}
use Rattle.std.specs.Ordering.{is_lt}
use Rattle.lh_time.specs.declared.Instant.{Instant}
use Rattle.lh_types.specs.Wish.{DueBit, Wish, with_bits, due_bit, due_bit_cmp, IsBelow, IsInOrder}
use Rattle.lh_eval_wishes.specs.declared.run.WishRun.{WishRun}
use Rattle.lh_eval_wishes.specs.Grouped.{is_filled}
use Rattle.lh_eval_wishes.specs.Over.{over}
use Rattle.lh_eval_wishes.specs.Runs.{row_wish, run_wish, runs_wish, is_below, below, above, AllBelow, AllFrom, EachFilled, AreRuns}
use Rattle.lh_history_laws.proofs.DueBits.{below_trans, in_order-bits}
use Rattle.lh_eval_wishes.proofs.Splice.{below-all, above-none, below-none, above-all, raised-all, lowered-all, from_risen, parted, spliced}
use Rattle.lh_eval_wishes.proofs.RunLemmas.{runs-append, runs-push, all-right, ordered-right, all_from}
use Rattle.lh_eval_wishes.proofs.Over.{over-append, over-row, over-over, over-ordered}

-- ---- entries in order

below-left : (k : DueBit) (xs ys : Wish) → IsBelow k (xs ++ ys) → IsBelow k xs
below-left k [] ys h = tt
below-left k (x ∷ xs) ys h = (h.0, below-left k xs ys h.1)

ordered-left : (xs ys : Wish) → IsInOrder (xs ++ ys) → IsInOrder xs
ordered-left [] ys h = tt
ordered-left (x ∷ xs) ys h = (below-left x.0 xs ys h.0, ordered-left xs ys h.1)

from-above : (k : DueBit) (w : Wish) → AllFrom k (above k w)
from-above k [] = tt
from-above k (e ∷ es) = at (is_below k e) refl (from-above k es)
  where
    at : (b : Bool) → is_below k e ≡ b → AllFrom k (above k es) → AllFrom k (if not b then e ∷ above k es else above k es)
    at true p ih = ih
    at false p ih = (p, ih)

below-below : (k : DueBit) (w : Wish) → AllBelow k (below k w)
below-below k [] = tt
below-below k (e ∷ es) = at (is_below k e) refl (below-below k es)
  where
    at : (b : Bool) → is_below k e ≡ b → AllBelow k (below k es) → AllBelow k (if b then e ∷ below k es else below k es)
    at true p ih = (p, ih)
    at false p ih = ih

from-append : (k : DueBit) (xs ys : Wish) → AllFrom k xs → AllFrom k ys → AllFrom k (xs ++ ys)
from-append k [] ys a b = b
from-append k (x ∷ xs) ys a b = (a.0, from-append k xs ys a.1 b)

below-append : (k : DueBit) (xs ys : Wish) → AllBelow k xs → AllBelow k ys → AllBelow k (xs ++ ys)
below-append k [] ys a b = b
below-append k (x ∷ xs) ys a b = (a.0, below-append k xs ys a.1 b)

-- what follows entries of which one is from a key on
rest-from : (k : DueBit) (xs ys : Wish) → IsInOrder (xs ++ ys) → (above k xs ≡ [] → ⊥) → AllFrom k ys
rest-from k [] ys h n = absurd (n refl)
rest-from k (e ∷ es) ys h n = at (is_below k e) refl n (λ m. rest-from k es ys h.1 m)
  where
    at : (b : Bool) → is_below k e ≡ b → ((if not b then e ∷ above k es else above k es) ≡ [] → ⊥) → ((above k es ≡ [] → ⊥) → AllFrom k ys) → AllFrom k ys
    at true p m ih = ih m
    at false p m ih = from_risen k e.0 ys p (all-right e.0 es ys h.0)

-- what is left of entries from a key on, before others
above-ordered : (k : DueBit) (xs ys : Wish) → IsInOrder (xs ++ ys) → IsInOrder (above k xs ++ ys)
above-ordered k xs ys h =
    ordered-right (below k xs) (above k xs ++ ys)
    (subst IsInOrder (ap (λ w. w ++ ys) (sym (parted k xs (ordered-left xs ys h))) ∙ append_assoc (below k xs) (above k xs) ys) h)

-- entries below a key and, behind them, others of which the first is at it
meeting : (k : DueBit) (p ys : Wish) (b : Bool) → IsInOrder p → AllBelow k p → IsInOrder ((k, b) ∷ ys) → IsInOrder (p ++ (k, b) ∷ ys)
meeting k [] ys b h a o = o
meeting k (e ∷ es) ys b h a o = (all-less es h.0, meeting k es ys b h.1 a.1 o)
  where
    less : (o : Ordering) → is_lt o ≡ true → o ≡ Less
    less Less h = refl
    less Equal h = cc
    less Greater h = cc

    all-less : (es : Wish) → IsBelow e.0 es → IsBelow e.0 (es ++ (k, b) ∷ ys)
    all-less [] h = let l : due_bit_cmp e.0 k ≡ Less = less _ a.0 in (l, below_trans e.0 k ys l o.0)
    all-less (x ∷ xs) h = (h.0, all-less xs h.1)

-- what stands before a row is below it
before-row : (t : Instant) (lo : ℕ) (bs : List Bool) (p v : Wish) → is_filled bs ≡ true → IsInOrder (p ++ (row_wish t lo bs ++ v)) → AllBelow (due_bit t lo) p
before-row t lo [] p v f h = cc
before-row t lo (b ∷ bs) p v f h = on p h
  where
    met : (k : DueBit) (q : Wish) → IsBelow k (q ++ (due_bit t lo, b) ∷ (row_wish t (lo + 1) bs ++ v)) → due_bit_cmp k (due_bit t lo) ≡ Less
    met k [] g = g.0
    met k (y ∷ q) g = met k q g.1

    on : (q : Wish) → IsInOrder (q ++ (due_bit t lo, b) ∷ (row_wish t (lo + 1) bs ++ v)) → AllBelow (due_bit t lo) q
    on [] g = tt
    on (x ∷ q) g = (ap is_lt (met x.0 q g.0), on q g.1)

filled-row : (t : Instant) (lo : ℕ) (bs : List Bool) → is_filled bs ≡ true → row_wish t lo bs ≡ [] → ⊥
filled-row t lo [] f e = cc
filled-row t lo (b ∷ bs) f e = cc

-- ---- the first of the rest

pub later-runs : (r : WishRun) (rest : List WishRun) → AreRuns (r ∷ rest) → AreRuns rest
later-runs r rest a = record { ordered = ordered-right (run_wish r) (runs_wish rest) a.ordered; filled = a.filled.1 }

pub all-from : (k : DueBit) (r : WishRun) (rest ns : List WishRun) → ns ≡ r ∷ rest → AreRuns (r ∷ rest) → AllFrom k (run_wish r) → AllFrom k (runs_wish ns)
all-from k r rest ns e a f = subst (λ (x : List WishRun). AllFrom k (runs_wish x)) (sym e) (all_from k (r ∷ rest) 0 r a.ordered a.filled refl f)

pub below-moved : (k : DueBit) (out ns rest : List WishRun) (r : WishRun) → ns ≡ out ++ r ∷ [] → AllBelow k (run_wish r)
    → runs_wish ns ++ below k (runs_wish rest) ≡ runs_wish out ++ below k (run_wish r ++ runs_wish rest)
below-moved k out ns rest r e a =
    ap (λ w. w ++ below k (runs_wish rest)) (runs-push out ns r e) ∙ append_assoc (runs_wish out) (run_wish r) (below k (runs_wish rest))
    ∙ ap (λ w. runs_wish out ++ w) (sym (filter-append _ (run_wish r) (runs_wish rest) ∙ ap (λ w. w ++ below k (runs_wish rest)) (below-all k (run_wish r) a)))

pub above-moved : (t : Instant) (lo hi : ℕ) (r : WishRun) (rest : List WishRun) → lo ≤ hi → AllBelow (due_bit t lo) (run_wish r)
    → above (due_bit t hi) (runs_wish rest) ≡ above (due_bit t hi) (run_wish r ++ runs_wish rest)
above-moved t lo hi r rest le a =
    sym (filter-append _ (run_wish r) (runs_wish rest) ∙ ap (λ w. w ++ above (due_bit t hi) (runs_wish rest)) (above-none (due_bit t hi) (run_wish r) (raised-all t lo hi (run_wish r) le a)))

-- ---- a run that is cut

pub high-from : (k : DueBit) (r high : WishRun) (rest ns : List WishRun) → ns ≡ high ∷ rest → AreRuns (r ∷ rest) → run_wish high ≡ above k (run_wish r) → is_filled high.bits ≡ true
    → AllFrom k (runs_wish ns)
high-from k r high rest ns e a h f =
    let n : above k (run_wish r) ≡ [] → ⊥ = λ z. filled-row high.due high.lo high.bits f (h ∙ z) in
    subst (λ (x : List WishRun). AllFrom k (runs_wish x)) (sym e)
    (from-append k (run_wish high) (runs_wish rest) (subst (AllFrom k) (sym h) (from-above k (run_wish r))) (rest-from k (run_wish r) (runs_wish rest) a.ordered n))

pub high-runs : (k : DueBit) (r high : WishRun) (rest ns : List WishRun) → ns ≡ high ∷ rest → AreRuns (r ∷ rest) → run_wish high ≡ above k (run_wish r) → is_filled high.bits ≡ true → AreRuns ns
high-runs k r high rest ns e a h f =
    subst AreRuns (sym e)
    (record { ordered = subst IsInOrder (ap (λ w. w ++ runs_wish rest) (sym h)) (above-ordered k (run_wish r) (runs_wish rest) a.ordered); filled = (f, a.filled.1) })

pub high-above : (k : DueBit) (r high : WishRun) (rest ns : List WishRun) → ns ≡ high ∷ rest → run_wish high ≡ above k (run_wish r)
    → above k (runs_wish ns) ≡ above k (run_wish r ++ runs_wish rest)
high-above k r high rest ns e h =
    ap (λ (x : List WishRun). above k (runs_wish x)) e ∙ ap (λ w. above k (w ++ runs_wish rest)) h ∙ filter-append _ (above k (run_wish r)) (runs_wish rest)
    ∙ ap (λ w. w ++ above k (runs_wish rest)) (above-all k (above k (run_wish r)) (from-above k (run_wish r))) ∙ sym (filter-append _ (run_wish r) (runs_wish rest))

pub high-below : (t : Instant) (lo hi : ℕ) (r high low : WishRun) (out after : Wish) (rest ns : List WishRun) → lo ≤ hi → ns ≡ high ∷ rest → AreRuns (r ∷ rest)
    → run_wish high ≡ above (due_bit t hi) (run_wish r) → is_filled high.bits ≡ true → run_wish low ≡ below (due_bit t lo) (run_wish r) → after ≡ out ++ run_wish low
    → after ++ below (due_bit t lo) (runs_wish ns) ≡ out ++ below (due_bit t lo) (run_wish r ++ runs_wish rest)
high-below t lo hi r high low out after rest ns le e a h f l p =
    let n : above (due_bit t hi) (run_wish r) ≡ [] → ⊥ = λ z. filled-row high.due high.lo high.bits f (h ∙ z) in
    let g : AllFrom (due_bit t hi) (runs_wish rest) = rest-from (due_bit t hi) (run_wish r) (runs_wish rest) a.ordered n in
    ap (λ w. after ++ w) (below-none (due_bit t lo) (runs_wish ns) (lowered-all t lo hi (runs_wish ns) le (high-from (due_bit t hi) r high rest ns e a h f))) ∙ append-nil after
    ∙ p ∙ ap (λ w. out ++ w)
    (l ∙ sym (filter-append _ (run_wish r) (runs_wish rest) ∙ ap (λ w. below (due_bit t lo) (run_wish r) ++ w) (below-none (due_bit t lo) (runs_wish rest) (lowered-all t lo hi (runs_wish rest) le g))
    ∙ append-nil (below (due_bit t lo) (run_wish r))))

-- ---- one more run over the rest

pub laid : (out out-1 out-2 rest rest-1 : List WishRun) (hi : ℕ) (r : WishRun) → hi ≡ r.lo + length r.bits → IsInOrder (runs_wish out ++ runs_wish rest)
    → AllBelow (due_bit r.due r.lo) (runs_wish out) → out-2 ≡ out-1 ++ r ∷ []
    → runs_wish out-1 ≡ runs_wish out ++ below (due_bit r.due r.lo) (runs_wish rest) → runs_wish rest-1 ≡ above (due_bit r.due hi) (runs_wish rest)
    → runs_wish out-2 ++ runs_wish rest-1 ≡ with_bits (runs_wish out ++ runs_wish rest) r.due r.lo r.bits
laid out out-1 out-2 rest rest-1 hi r n h a e p q =
    ap (λ w. w ++ runs_wish rest-1) (runs-push out-1 out-2 r e ∙ ap (λ w. w ++ run_wish r) p) ∙ ap (λ w. ((runs_wish out ++ low) ++ run_wish r) ++ w) (q ∙ sym (append-nil high))
    ∙ append_assoc (runs_wish out ++ low) (run_wish r) (high ++ []) ∙ append_assoc (runs_wish out) low (run_wish r ++ (high ++ []))
    ∙ sym (spliced (runs_wish out) (runs_wish rest) [] r.due r.lo hi r.bits n (subst IsInOrder (ap (λ w. runs_wish out ++ w) (sym (append-nil (runs_wish rest)))) h) a tt)
    ∙ ap (λ w. with_bits (runs_wish out ++ w) r.due r.lo r.bits) (append-nil (runs_wish rest))
  where
    low : Wish
    low = below (due_bit r.due r.lo) (runs_wish rest)

    high : Wish
    high = above (due_bit r.due hi) (runs_wish rest)

-- what stands before a run that comes next is below it
pub out-below : (r : WishRun) (out : Wish) → is_filled r.bits ≡ true → IsInOrder (out ++ run_wish r) → AllBelow (due_bit r.due r.lo) out
out-below r out f h = before-row r.due r.lo r.bits out [] f (subst IsInOrder (ap (λ w. out ++ w) (sym (append-nil (run_wish r)))) h)

-- and so is what is moved there, so that what follows the run stays in order
pub laid-before : (out out-1 out-2 rest : List WishRun) (r : WishRun) (v : Wish) → is_filled r.bits ≡ true → IsInOrder (runs_wish out ++ runs_wish rest)
    → out-2 ≡ out-1 ++ r ∷ [] → runs_wish out-1 ≡ runs_wish out ++ below (due_bit r.due r.lo) (runs_wish rest)
    → IsInOrder (runs_wish out ++ (run_wish r ++ v)) → IsInOrder (runs_wish out-2 ++ v)
laid-before out out-1 out-2 rest r v f h e p o =
    subst IsInOrder (sym (ap (λ w. w ++ v) (runs-push out-1 out-2 r e ∙ ap (λ w. w ++ run_wish r) p) ∙ append_assoc (runs_wish out ++ low) (run_wish r) v))
    (on r.bits f (before-row r.due r.lo r.bits (runs_wish out) v f o) (ordered-right (runs_wish out) (run_wish r ++ v) o))
  where
    low : Wish
    low = below (due_bit r.due r.lo) (runs_wish rest)

    first : IsInOrder (runs_wish out ++ low)
    first =
        ordered-left (runs_wish out ++ low) (above (due_bit r.due r.lo) (runs_wish rest))
        (subst IsInOrder
        (ap (λ w. runs_wish out ++ w) (sym (parted (due_bit r.due r.lo) (runs_wish rest) (ordered-right (runs_wish out) (runs_wish rest) h)))
        ∙ sym (append_assoc (runs_wish out) low (above (due_bit r.due r.lo) (runs_wish rest)))) h)

    on : (bs : List Bool) → is_filled bs ≡ true → AllBelow (due_bit r.due r.lo) (runs_wish out) → IsInOrder (row_wish r.due r.lo bs ++ v)
        → IsInOrder ((runs_wish out ++ low) ++ (row_wish r.due r.lo bs ++ v))
    on [] f a o = cc
    on (b ∷ bs) f a o =
        meeting (due_bit r.due r.lo) (runs_wish out ++ low) (row_wish r.due (r.lo + 1) bs ++ v) b first
        (below-append (due_bit r.due r.lo) (runs_wish out) low a (below-below (due_bit r.due r.lo) (runs_wish rest))) o

-- ---- all of them

pub over-more : (w x a : Wish) (r : WishRun) (newer later : List WishRun) → newer ≡ r ∷ later → x ≡ with_bits w r.due r.lo r.bits → over w (runs_wish newer) ≡ a → over x (runs_wish later) ≡ a
over-more w x a r newer later e p q =
    ap (λ u. over u (runs_wish later)) (p ∙ sym (over-row r.bits w r.due r.lo)) ∙ sym (over-append (run_wish r) (runs_wish later) w) ∙ ap (λ (y : List WishRun). over w (runs_wish y)) (sym e) ∙ q

pub order-kept : (w x : Wish) (r : WishRun) → IsInOrder w → x ≡ with_bits w r.due r.lo r.bits → IsInOrder x
order-kept w x r h e = subst IsInOrder (sym e) (in_order-bits r.bits w r.due r.lo h)

-- behind all that is out stands what is left of the rest
pub overlaid-wish : (out rest all : List WishRun) (a b : Wish) → all ≡ out ++ rest → runs_wish out ++ runs_wish rest ≡ over a b → runs_wish all ≡ over a b
overlaid-wish out rest all a b e h = ap runs_wish e ∙ runs-append out rest ∙ h

pub next-ordered : (out : Wish) (r : WishRun) (newer later : List WishRun) → newer ≡ r ∷ later → IsInOrder (out ++ runs_wish newer) → IsInOrder (out ++ run_wish r)
next-ordered out r newer later e h =
    ordered-left (out ++ run_wish r) (runs_wish later)
    (subst IsInOrder (ap (λ (x : List WishRun). out ++ runs_wish x) e ∙ sym (append_assoc out (run_wish r) (runs_wish later))) h)

pub over-runs : (older newer rs : List WishRun) → runs_wish rs ≡ over (runs_wish older) (runs_wish newer) → IsInOrder (runs_wish older) → EachFilled rs → AreRuns rs
over-runs older newer rs e h f = record { ordered = subst IsInOrder (sym e) (over-ordered (runs_wish newer) (runs_wish older) h); filled = f }

pub over-joined : (older newer rs : List WishRun) (below self : Wish) → below ≡ runs_wish older → self ≡ runs_wish newer → runs_wish rs ≡ over (runs_wish older) (runs_wish newer)
    → IsInOrder (runs_wish older) → (w : Wish) → over (over w below) self ≡ over w (runs_wish rs)
over-joined older newer rs below self p q e h w =
    ap (λ v. over (over w v) self) p ∙ ap (λ v. over (over w (runs_wish older)) v) q ∙ sym (over-over (runs_wish newer) (runs_wish older) w h) ∙ ap (λ v. over w v) (sym e)
