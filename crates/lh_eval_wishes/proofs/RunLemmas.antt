-- Runs against a bit at an instant, and runs in order.
use Rattle.std.proofs.Common.{◌≡◌, ℕ, ◌+◌, ◌-◌, ◌<◌, ◌≤◌, zero, suc, List, [], ◌∷◌, ◌++◌, length, take, drop, set, Bool, true, false, nat_lt, Some, slice_get, get_or, Result, Ok, Err, IfOk, OnOk, refl, ap, sym, ◌∙◌, subst, append_assoc, arith}
use Rattle.std.proofs.lemmas.List.{append-nil, take_more, drop_more, set_split, take-append-drop, take-take}
use Rattle.std.proofs.Math.Seq.{take-length, drop-length}
use Rattle.std.proofs.lemmas.List.Elements.{filter-append}
use Rattle.std.proofs.lemmas.Bool.Decides.{nat_tests}
use Rattle.std.proofs.lemmas.Option.{slice_get_read}
use Rattle.std.specs.declared.cmp.Ordering.{Ordering}
use Rattle.std.specs.declared.cmp.Ordering.TheVariants.{Less, Equal, Greater}
use Rattle.std.specs.Ordering.{is_lt, ordering_then, nat_cmp}
use Rattle.lh_time.specs.declared.Instant.{Instant}
use Rattle.lh_time.specs.Order.{instant_cmp}
use Rattle.lh_types.specs.Wish.{DueBit, Wish, with_bits, due_bit, IsBelow, IsInOrder}
use Rattle.lh_eval_wishes.specs.declared.run.WishRun.{WishRun}
use Rattle.lh_eval_wishes.specs.Grouped.{is_filled}
use Rattle.lh_eval_wishes.specs.Runs.{row_wish, run_wish, runs_wish, is_below, below, above, AllBelow, AllFrom, EachFilled, AreRuns}
use Rattle.lh_history_laws.proofs.DueBits.{due_bit_total, in_order-bits, same-less, same-not_less}
use Rattle.lh_eval_wishes.proofs.Splice.{below-all, above-none, below-none, above-all, from_risen, spliced}

-- ---- the bits of one run

pub earlier : (s t : Instant) (l lo : ℕ) (bs : List Bool) → instant_cmp s t ≡ Less → AllBelow (due_bit t lo) (row_wish s l bs)
earlier s t l lo [] h = tt
earlier s t l lo (b ∷ bs) h = (ap (λ o. is_lt (ordering_then o (nat_cmp l lo))) h, earlier s t (l + 1) lo bs h)

pub later : (s t : Instant) (l hi : ℕ) (bs : List Bool) → instant_cmp s t ≡ Greater → AllFrom (due_bit t hi) (row_wish s l bs)
later s t l hi [] h = tt
later s t l hi (b ∷ bs) h = (ap (λ o. is_lt (ordering_then o (nat_cmp l hi))) h, later s t (l + 1) hi bs h)

pub lower : (s t : Instant) (l lo : ℕ) (bs : List Bool) → instant_cmp s t ≡ Equal → l + length bs ≤ lo → AllBelow (due_bit t lo) (row_wish s l bs)
lower s t l lo [] h n = tt
lower s t l lo (b ∷ bs) h n =
    let m : l < lo = omega arith in
    let r : l + 1 + length bs ≤ lo = omega arith in
    (ap is_lt (same-less s t l lo h m), lower s t (l + 1) lo bs h r)

pub higher : (s t : Instant) (l hi : ℕ) (bs : List Bool) → instant_cmp s t ≡ Equal → hi ≤ l → AllFrom (due_bit t hi) (row_wish s l bs)
higher s t l hi [] h n = tt
higher s t l hi (b ∷ bs) h n =
    let m : hi ≤ l + 1 = omega arith in
    (same-not_less s t l hi h n, higher s t (l + 1) hi bs h m)

pub cut-low : (s t : Instant) (l lo : ℕ) (bs : List Bool) → instant_cmp s t ≡ Equal → below (due_bit t lo) (row_wish s l bs) ≡ row_wish s l (take (lo - l) bs)
cut-low s t l lo [] h = at (lo - l)
  where
    at : (n : ℕ) → [] ≡ row_wish s l (take n [])
    at zero = refl
    at (suc n) = refl
cut-low s t l lo (b ∷ bs) h = at (nat_lt l lo) refl (cut-low s t (l + 1) lo bs h)
  where
    under : l < lo → below (due_bit t lo) (row_wish s (l + 1) bs) ≡ row_wish s (l + 1) (take (lo - (l + 1)) bs) → below (due_bit t lo) (row_wish s l (b ∷ bs)) ≡ row_wish s l (take (lo - l) (b ∷ bs))
    under m ih =
        let n : lo - l ≡ suc (lo - (l + 1)) = omega arith in
        let c : is_below (due_bit t lo) (due_bit s l, b) ≡ true = ap is_lt (same-less s t l lo h m) in
        rw (n, c) (ap (λ w. (due_bit s l, b) ∷ w) ih)

    over : lo ≤ l → below (due_bit t lo) (row_wish s l (b ∷ bs)) ≡ row_wish s l (take (lo - l) (b ∷ bs))
    over m =
        let n : lo - l ≡ 0 = omega arith in
        below-none (due_bit t lo) (row_wish s l (b ∷ bs)) (higher s t l lo (b ∷ bs) h m) ∙ ap (λ k. row_wish s l (take k (b ∷ bs))) (sym n)

    at : (c : Bool) → nat_lt l lo ≡ c → below (due_bit t lo) (row_wish s (l + 1) bs) ≡ row_wish s (l + 1) (take (lo - (l + 1)) bs)
        → below (due_bit t lo) (row_wish s l (b ∷ bs)) ≡ row_wish s l (take (lo - l) (b ∷ bs))
    at true e ih = under (is_lt-nat l lo e) ih
      where
        is_lt-nat : (i j : ℕ) → nat_lt i j ≡ true → i < j
        is_lt-nat i j e = grind (arith, nat_tests)
    at false e ih = over (not_lt-nat l lo e)
      where
        not_lt-nat : (i j : ℕ) → nat_lt i j ≡ false → j ≤ i
        not_lt-nat i j e = grind (arith, nat_tests)

pub cut-high : (s t : Instant) (l hi : ℕ) (bs : List Bool) → instant_cmp s t ≡ Equal → l ≤ hi → above (due_bit t hi) (row_wish s l bs) ≡ row_wish s hi (drop (hi - l) bs)
cut-high s t l hi [] h m = at (hi - l)
  where
    at : (n : ℕ) → [] ≡ row_wish s hi (drop n [])
    at zero = refl
    at (suc n) = refl
cut-high s t l hi (b ∷ bs) h m = at (nat_cmp l hi) refl (cut-high s t (l + 1) hi bs h)
  where
    under : l < hi → (l + 1 ≤ hi → above (due_bit t hi) (row_wish s (l + 1) bs) ≡ row_wish s hi (drop (hi - (l + 1)) bs))
        → above (due_bit t hi) (row_wish s l (b ∷ bs)) ≡ row_wish s hi (drop (hi - l) (b ∷ bs))
    under p ih =
        let n : hi - l ≡ suc (hi - (l + 1)) = omega arith in
        let q : l + 1 ≤ hi = omega arith in
        let c : is_below (due_bit t hi) (due_bit s l, b) ≡ true = ap is_lt (same-less s t l hi h p) in
        rw (n, c) (ih q)

    exact : l ≡ hi → above (due_bit t hi) (row_wish s l (b ∷ bs)) ≡ row_wish s hi (drop (hi - l) (b ∷ bs))
    exact p =
        let n : hi - l ≡ 0 = omega arith in
        above-all (due_bit t hi) (row_wish s l (b ∷ bs)) (higher s t l hi (b ∷ bs) h (omega arith)) ∙ ap (λ k. row_wish s k (b ∷ bs)) p ∙ ap (λ k. row_wish s hi (drop k (b ∷ bs))) (sym n)

    at : (o : Ordering) → nat_cmp l hi ≡ o → (l + 1 ≤ hi → above (due_bit t hi) (row_wish s (l + 1) bs) ≡ row_wish s hi (drop (hi - (l + 1)) bs))
        → above (due_bit t hi) (row_wish s l (b ∷ bs)) ≡ row_wish s hi (drop (hi - l) (b ∷ bs))
    at Less e ih = under (less l hi e) ih
      where
        less : (i j : ℕ) → nat_cmp i j ≡ Less → i < j
        less i j e = grind (arith, nat_tests)
    at Equal e ih = exact (equal l hi e)
      where
        equal : (i j : ℕ) → nat_cmp i j ≡ Equal → i ≡ j
        equal i j e = grind (arith, nat_tests)
    at Greater e ih = absurd (gone l hi m e)
      where
        gone : (i j : ℕ) → i ≤ j → nat_cmp i j ≡ Greater → ⊥
        gone i j m e = grind (arith, nat_tests)

-- ---- runs in order

pub runs-append : (xs ys : List WishRun) → runs_wish (xs ++ ys) ≡ runs_wish xs ++ runs_wish ys
runs-append [] ys = refl
runs-append (x ∷ xs) ys = ap (λ w. run_wish x ++ w) (runs-append xs ys) ∙ sym (append_assoc (run_wish x) (runs_wish xs) (runs_wish ys))

pub filled-append : (xs ys : List WishRun) → EachFilled xs → EachFilled ys → EachFilled (xs ++ ys)
filled-append [] ys a b = b
filled-append (x ∷ xs) ys a b = (a.0, filled-append xs ys a.1 b)

pub filled-take : (n : ℕ) (xs : List WishRun) → EachFilled xs → EachFilled (take n xs)
filled-take zero xs a = tt
filled-take (suc n) [] a = tt
filled-take (suc n) (x ∷ xs) a = (a.0, filled-take n xs a.1)

pub filled-drop : (n : ℕ) (xs : List WishRun) → EachFilled xs → EachFilled (drop n xs)
filled-drop zero xs a = a
filled-drop (suc n) [] a = tt
filled-drop (suc n) (x ∷ xs) a = filled-drop n xs a.1

pub all-right : (k : DueBit) (xs ys : Wish) → IsBelow k (xs ++ ys) → IsBelow k ys
all-right k [] ys h = h
all-right k (x ∷ xs) ys h = all-right k xs ys h.1

pub ordered-right : (xs ys : Wish) → IsInOrder (xs ++ ys) → IsInOrder ys
ordered-right [] ys h = h
ordered-right (x ∷ xs) ys h = ordered-right xs ys h.1

all-append : (k : DueBit) (xs ys : Wish) → AllBelow k xs → AllBelow k ys → AllBelow k (xs ++ ys)
all-append k [] ys a b = b
all-append k (x ∷ xs) ys a b = (a.0, all-append k xs ys a.1 b)

-- what stands before an entry below a key is below it
before : (k : DueBit) (e : DueBit × Bool) (xs ys : Wish) → is_below k e ≡ true → IsInOrder (xs ++ e ∷ ys) → AllBelow k xs
before k e [] ys h s = tt
before k e (x ∷ xs) ys h s =
    (ap is_lt (due_bit_total.trans x.0 e.0 k (all-right x.0 xs (e ∷ ys) s.0).0 (less _ h)), before k e xs ys h s.1)
  where
    less : (o : Ordering) → is_lt o ≡ true → o ≡ Less
    less Less h = refl
    less Equal h = cc
    less Greater h = cc

-- the runs up to one that is below a key
pub all_below : (k : DueBit) (rs : List WishRun) (i : ℕ) (r : WishRun) → IsInOrder (runs_wish rs) → EachFilled rs → slice_get rs i ≡ Some r → AllBelow k (run_wish r)
    → AllBelow k (runs_wish (take (suc i) rs))
all_below k [] i r s f g a = absurd (gone i g)
  where
    gone : (j : ℕ) → slice_get [] j ≡ Some r → ⊥
    gone zero p = cc
    gone (suc j) p = cc
all_below k (x ∷ rs) zero r s f g a =
    let e : x ≡ r = cc in
    subst (AllBelow k) (ap run_wish (sym e) ∙ sym (append-nil (run_wish x))) a
all_below k (x ∷ rs) (suc i) r s f g a = joined rs s f (all_below k rs i r (ordered-right (run_wish x) (runs_wish rs) s) f.1 g a) g
  where
    first : (t : Instant) (l : ℕ) (bs : List Bool) (rest more : Wish) → is_filled bs ≡ true → AllBelow k (row_wish t l bs ++ rest) → IsInOrder (run_wish x ++ (row_wish t l bs ++ more))
        → AllBelow k (run_wish x)
    first t l [] rest more f b s = cc
    first t l (c ∷ bs) rest more f b s = before k (due_bit t l, c) (run_wish x) (row_wish t (l + 1) bs ++ more) b.0 s

    joined : (rs : List WishRun) → IsInOrder (runs_wish (x ∷ rs)) → EachFilled (x ∷ rs) → AllBelow k (runs_wish (take (suc i) rs)) → slice_get rs i ≡ Some r
        → AllBelow k (run_wish x ++ runs_wish (take (suc i) rs))
    joined [] s f b g = absurd (gone i g)
      where
        gone : (j : ℕ) → slice_get [] j ≡ Some r → ⊥
        gone zero p = cc
        gone (suc j) p = cc
    joined (y ∷ rs) s f b g = all-append k (run_wish x) (runs_wish (take (suc i) (y ∷ rs))) (first y.due y.lo y.bits (runs_wish (take i rs)) (runs_wish rs) f.1.0 b s) b

-- the runs from one on that is not below a key
pub all_from : (k : DueBit) (rs : List WishRun) (i : ℕ) (r : WishRun) → IsInOrder (runs_wish rs) → EachFilled rs → slice_get rs i ≡ Some r → AllFrom k (run_wish r) → AllFrom k (runs_wish (drop i rs))
all_from k [] i r s f g a = absurd (gone i g)
  where
    gone : (j : ℕ) → slice_get [] j ≡ Some r → ⊥
    gone zero p = cc
    gone (suc j) p = cc
all_from k (x ∷ rs) zero r s f g a =
    let e : r ≡ x = cc in
    first x.due x.lo x.bits (runs_wish rs) f.0 s (subst (λ (y : WishRun). AllFrom k (run_wish y)) e a)
  where
    first : (t : Instant) (l : ℕ) (bs : List Bool) (rest : Wish) → is_filled bs ≡ true → IsInOrder (row_wish t l bs ++ rest) → AllFrom k (row_wish t l bs) → AllFrom k (row_wish t l bs ++ rest)
    first t l [] rest f s b = cc
    first t l (c ∷ bs) rest f s b = (b.0, from_risen k (due_bit t l) (row_wish t (l + 1) bs ++ rest) b.0 s.0)
all_from k (x ∷ rs) (suc i) r s f g a = all_from k rs i r (ordered-right (run_wish x) (runs_wish rs) s) f.1 g a

-- one more run at the end
pub runs-push : (xs ys : List WishRun) (r : WishRun) → ys ≡ xs ++ r ∷ [] → runs_wish ys ≡ runs_wish xs ++ run_wish r
runs-push xs ys r e = ap runs_wish e ∙ runs-append xs (r ∷ []) ∙ ap (λ w. runs_wish xs ++ w) (append-nil (run_wish r))

pub filled-push : (xs ys : List WishRun) (r : WishRun) → ys ≡ xs ++ r ∷ [] → is_filled r.bits ≡ true → EachFilled xs → EachFilled ys
filled-push xs ys r e f a = subst EachFilled (sym e) (filled-append xs (r ∷ []) a (f, tt))

pub is_filled-by : (bs : List Bool) → (length bs ≡ 0 → ⊥) → is_filled bs ≡ true
is_filled-by [] h = absurd (h refl)
is_filled-by (b ∷ bs) h = refl

-- ---- the steps of the code

-- one more run that is below a key
pub below-more : (k : DueBit) (rs : List WishRun) (i : ℕ) (r : WishRun) → AreRuns rs → i < length rs → r ≡ get_or rs i r → AllBelow k (run_wish r) → AllBelow k (runs_wish (take (i + 1) rs))
below-more k rs i r a h e b =
    let n : suc i ≡ i + 1 = omega arith in
    subst (λ (j : ℕ). AllBelow k (runs_wish (take j rs))) n (all_below k rs i r a.ordered a.filled (slice_get_read rs (length rs) i r refl h e) b)

pub above-here : (k : DueBit) (rs : List WishRun) (i : ℕ) (r : WishRun) → AreRuns rs → i < length rs → r ≡ get_or rs i r → AllFrom k (run_wish r) → AllFrom k (runs_wish (drop i rs))
above-here k rs i r a h e b = all_from k rs i r a.ordered a.filled (slice_get_read rs (length rs) i r refl h e) b

-- what is left of a run
pub low-less : (s t : Instant) (l lo n : ℕ) (bs cs : List Bool) → instant_cmp s t ≡ Less → n ≡ length bs → cs ≡ take n bs → row_wish s l cs ≡ below (due_bit t lo) (row_wish s l bs)
low-less s t l lo n bs cs h e f = ap (row_wish s l) (f ∙ ap (λ m. take m bs) e ∙ take-length bs) ∙ sym (below-all (due_bit t lo) (row_wish s l bs) (earlier s t l lo bs h))

pub low-equal : (s t : Instant) (l lo n : ℕ) (bs cs : List Bool) → instant_cmp s t ≡ Equal → n ≡ lo - l → cs ≡ take n bs → row_wish s l cs ≡ below (due_bit t lo) (row_wish s l bs)
low-equal s t l lo n bs cs h e f = ap (row_wish s l) (f ∙ ap (λ m. take m bs) e) ∙ sym (cut-low s t l lo bs h)

pub low-greater : (s t : Instant) (l lo n : ℕ) (bs cs : List Bool) → instant_cmp s t ≡ Greater → n ≡ 0 → cs ≡ take n bs → row_wish s l cs ≡ below (due_bit t lo) (row_wish s l bs)
low-greater s t l lo n bs cs h e f = ap (row_wish s l) (f ∙ ap (λ m. take m bs) e) ∙ sym (below-none (due_bit t lo) (row_wish s l bs) (later s t l lo bs h))

pub high-less : (s t : Instant) (l hi m n : ℕ) (bs cs : List Bool) → instant_cmp s t ≡ Less → n ≡ length bs → cs ≡ drop n bs → row_wish s m cs ≡ above (due_bit t hi) (row_wish s l bs)
high-less s t l hi m n bs cs h e f = ap (row_wish s m) (f ∙ ap (λ k. drop k bs) e ∙ drop-length bs) ∙ sym (above-none (due_bit t hi) (row_wish s l bs) (earlier s t l hi bs h))

pub high-equal : (s t : Instant) (l hi m n : ℕ) (bs cs : List Bool) → instant_cmp s t ≡ Equal → l ≤ hi → m ≡ hi → n ≡ hi - l → cs ≡ drop n bs → row_wish s m cs ≡ above (due_bit t hi) (row_wish s l bs)
high-equal s t l hi m n bs cs h le d e f = ap (λ k. row_wish s k cs) d ∙ ap (row_wish s hi) (f ∙ ap (λ k. drop k bs) e) ∙ sym (cut-high s t l hi bs h le)

pub high-from : (s t : Instant) (l hi m n : ℕ) (bs cs : List Bool) → AllFrom (due_bit t hi) (row_wish s l bs) → m ≡ l → n ≡ 0 → cs ≡ drop n bs
    → row_wish s m cs ≡ above (due_bit t hi) (row_wish s l bs)
high-from s t l hi m n bs cs a d e f = ap (λ k. row_wish s k cs) d ∙ ap (row_wish s l) (f ∙ ap (λ k. drop k bs) e) ∙ sym (above-all (due_bit t hi) (row_wish s l bs) a)

-- one more run that is cut
runs-more : (cut : List WishRun) (i : ℕ) (r : WishRun) → i < length cut → r ≡ get_or cut i r → runs_wish (take (i + 1) cut) ≡ runs_wish (take i cut) ++ run_wish r
runs-more cut i r h e = runs-push (take i cut) (take (i + 1) cut) r (take_more cut i r h ∙ ap (λ (x : WishRun). take i cut ++ x ∷ []) (sym e))

pub low-more : (k : DueBit) (cut : List WishRun) (i : ℕ) (r : WishRun) (start before after low : Wish) → i < length cut → r ≡ get_or cut i r → low ≡ below k (run_wish r)
    → before ≡ start ++ below k (runs_wish (take i cut)) → after ≡ before ++ low → after ≡ start ++ below k (runs_wish (take (i + 1) cut))
low-more k cut i r start before after low h e p q s =
    s ∙ ap (λ w. w ++ low) q ∙ append_assoc start (below k (runs_wish (take i cut))) low
    ∙ ap (λ w. start ++ w) (ap (λ w. below k (runs_wish (take i cut)) ++ w) p ∙ sym (filter-append _ (runs_wish (take i cut)) (run_wish r)) ∙ ap (below k) (sym (runs-more cut i r h e)))

pub high-more : (k : DueBit) (cut : List WishRun) (i : ℕ) (r : WishRun) (before after high : Wish) → i < length cut → r ≡ get_or cut i r → high ≡ above k (run_wish r)
    → before ≡ above k (runs_wish (take i cut)) → after ≡ before ++ high → after ≡ above k (runs_wish (take (i + 1) cut))
high-more k cut i r before after high h e p q s =
    s ∙ ap (λ w. w ++ high) q ∙ ap (λ w. above k (runs_wish (take i cut)) ++ w) p ∙ sym (filter-append _ (runs_wish (take i cut)) (run_wish r)) ∙ ap (above k) (sym (runs-more cut i r h e))

-- the runs, put together
pub joined : (a b c d : List WishRun) (r : WishRun) (start low high : Wish) → runs_wish a ≡ start ++ low → runs_wish b ≡ high → d ≡ ((a ++ r ∷ []) ++ b) ++ c
    → runs_wish d ≡ start ++ (low ++ (run_wish r ++ (high ++ runs_wish c)))
joined a b c d r start low high e f g =
    ap runs_wish (g ∙ append_assoc (a ++ r ∷ []) b c ∙ append_assoc a (r ∷ []) (b ++ c))
    ∙ runs-append a (r ∷ (b ++ c))
    ∙ ap (λ w. w ++ (run_wish r ++ runs_wish (b ++ c))) e
    ∙ append_assoc start low (run_wish r ++ runs_wish (b ++ c))
    ∙ ap (λ w. start ++ (low ++ (run_wish r ++ w))) (runs-append b c ∙ ap (λ w. w ++ runs_wish c) f)

pub joined-filled : (a b c d : List WishRun) (r : WishRun) → EachFilled a → EachFilled b → EachFilled c → is_filled r.bits ≡ true → d ≡ ((a ++ r ∷ []) ++ b) ++ c → EachFilled d
joined-filled a b c d r e f g h p = subst EachFilled (sym p) (filled-append ((a ++ r ∷ []) ++ b) c (filled-append (a ++ r ∷ []) b (filled-append a (r ∷ []) e (h, tt)) f) g)

-- a run where none is met
pub inserted : (rs ns : List WishRun) (i hi : ℕ) (r : WishRun) → hi ≡ r.lo + length r.bits → IsInOrder (runs_wish rs) → AllBelow (due_bit r.due r.lo) (runs_wish (take i rs))
    → AllFrom (due_bit r.due hi) (runs_wish (drop i rs))
    → ns ≡ take i rs ++ r ∷ drop i rs → runs_wish ns ≡ with_bits (runs_wish rs) r.due r.lo r.bits
inserted rs ns i hi r n h a b e =
    let whole : runs_wish rs ≡ runs_wish (take i rs) ++ runs_wish (drop i rs) = ap runs_wish (sym (take-append-drop i rs)) ∙ runs-append (take i rs) (drop i rs) in
    ap runs_wish e ∙ runs-append (take i rs) (r ∷ drop i rs)
    ∙ sym (spliced (runs_wish (take i rs)) [] (runs_wish (drop i rs)) r.due r.lo hi r.bits n (subst IsInOrder whole h) a b)
    ∙ ap (λ w. with_bits w r.due r.lo r.bits) (sym whole)

pub inserted-filled : (rs ns : List WishRun) (i : ℕ) (r : WishRun) → EachFilled rs → is_filled r.bits ≡ true → ns ≡ take i rs ++ r ∷ drop i rs → EachFilled ns
inserted-filled rs ns i r a f e = subst EachFilled (sym e) (filled-append (take i rs) (r ∷ drop i rs) (filled-take i rs a) (f, filled-drop i rs a))

-- a run alone
pub first-wish : (r : WishRun) → runs_wish (r ∷ []) ≡ with_bits [] r.due r.lo r.bits
first-wish r = inserted [] (r ∷ []) 0 (r.lo + length r.bits) r refl tt tt tt refl

-- a run in place of one other that it covers whole
pub covered : (rs ns : List WishRun) (i j hi : ℕ) (x r : WishRun) → j ≡ i + 1 → i < length rs → x ≡ get_or rs i x → hi ≡ r.lo + length r.bits → IsInOrder (runs_wish rs)
    → AllBelow (due_bit r.due r.lo) (runs_wish (take i rs)) → AllFrom (due_bit r.due hi) (runs_wish (drop j rs))
    → AllFrom (due_bit r.due r.lo) (run_wish x) → AllBelow (due_bit r.due (r.lo + length r.bits)) (run_wish x) → ns ≡ set rs i r → runs_wish ns ≡ with_bits (runs_wish rs) r.due r.lo r.bits
covered rs ns i j hi x r ji l g n h a b f t e =
    ap runs_wish (e ∙ set-splits) ∙ runs-append (take i rs) (r ∷ drop j rs)
    ∙ ap (λ v. runs_wish (take i rs) ++ v)
    (ap (λ v. v ++ (run_wish r ++ runs_wish (drop j rs))) (sym (below-none (due_bit r.due r.lo) (run_wish x) f))
    ∙ ap (λ v. below (due_bit r.due r.lo) (run_wish x) ++ (run_wish r ++ (v ++ runs_wish (drop j rs)))) (sym (above-none (due_bit r.due hi) (run_wish x) (subst (λ k. AllBelow (due_bit r.due k) (run_wish x)) (sym n) t))))
    ∙ sym (spliced (runs_wish (take i rs)) (run_wish x) (runs_wish (drop j rs)) r.due r.lo hi r.bits n (subst IsInOrder whole h) a b)
    ∙ ap (λ w. with_bits w r.due r.lo r.bits) (sym whole)
  where
    set-splits : set rs i r ≡ take i rs ++ r ∷ drop j rs
    set-splits = let m : suc i ≡ j = omega arith in set_split rs i r l ∙ ap (λ k. take i rs ++ r ∷ drop k rs) m

    splits : rs ≡ take i rs ++ x ∷ drop j rs
    splits =
        sym (take-append-drop i rs) ∙ ap (λ (y : List WishRun). take i rs ++ y) (drop_more rs i x l)
        ∙ ap (λ (y : WishRun). take i rs ++ y ∷ drop (i + 1) rs) (sym g) ∙ ap (λ k. take i rs ++ x ∷ drop k rs) (sym ji)

    whole : runs_wish rs ≡ runs_wish (take i rs) ++ (run_wish x ++ runs_wish (drop j rs))
    whole = ap runs_wish splits ∙ runs-append (take i rs) (x ∷ drop j rs)

pub covered-alone : (x r : WishRun) → AllFrom (due_bit r.due r.lo) (run_wish x) → AllBelow (due_bit r.due (r.lo + length r.bits)) (run_wish x) → IsInOrder (runs_wish (x ∷ []))
    → runs_wish (r ∷ []) ≡ with_bits (runs_wish (x ∷ [])) r.due r.lo r.bits
covered-alone x r f t h = let j : 1 ≡ 0 + 1 = omega arith in covered (x ∷ []) (r ∷ []) 0 1 (r.lo + length r.bits) x r j (omega arith) refl refl h tt tt f t refl

pub covered-filled : (rs ns : List WishRun) (i : ℕ) (r : WishRun) → i < length rs → EachFilled rs → is_filled r.bits ≡ true → ns ≡ set rs i r → EachFilled ns
covered-filled rs ns i r l a f e = subst EachFilled (sym (e ∙ set_split rs i r l)) (filled-append (take i rs) (r ∷ drop (suc i) rs) (filled-take i rs a) (f, filled-drop (suc i) rs a))

-- a run in place of what it covers
pub replaced : (rs front pre cut after : List WishRun) (i j hi : ℕ) (r : WishRun) (w : Wish) → i ≤ j → hi ≡ r.lo + length r.bits → IsInOrder (runs_wish rs)
    → AllBelow (due_bit r.due r.lo) (runs_wish (take i rs)) → AllFrom (due_bit r.due hi) (runs_wish (drop j rs))
    → front ≡ take j rs → after ≡ drop j rs → pre ≡ take i front → cut ≡ drop i front
    → w ≡ runs_wish pre ++ (below (due_bit r.due r.lo) (runs_wish cut) ++ (run_wish r ++ (above (due_bit r.due hi) (runs_wish cut) ++ runs_wish after)))
    → w ≡ with_bits (runs_wish rs) r.due r.lo r.bits
replaced rs front pre cut after i j hi r w ij n h a b ef ea ep ec e =
    e ∙ sym (spliced (runs_wish pre) (runs_wish cut) (runs_wish after) r.due r.lo hi r.bits n (subst IsInOrder whole h) low high) ∙ ap (λ v. with_bits v r.due r.lo r.bits) (sym whole)
  where
    split : rs ≡ pre ++ (cut ++ after)
    split =
        sym (take-append-drop j rs) ∙ ap (λ (x : List WishRun). x ++ drop j rs) (sym ef ∙ sym (take-append-drop i front)) ∙ append_assoc (take i front) (drop i front) (drop j rs)
        ∙ ap (λ (x : List WishRun). x ++ (drop i front ++ drop j rs)) (sym ep) ∙ ap (λ (x : List WishRun). pre ++ (x ++ drop j rs)) (sym ec) ∙ ap (λ (x : List WishRun). pre ++ (cut ++ x)) (sym ea)

    whole : runs_wish rs ≡ runs_wish pre ++ (runs_wish cut ++ runs_wish after)
    whole = ap runs_wish split ∙ runs-append pre (cut ++ after) ∙ ap (λ v. runs_wish pre ++ v) (runs-append cut after)

    low : AllBelow (due_bit r.due r.lo) (runs_wish pre)
    low = subst (λ (x : List WishRun). AllBelow (due_bit r.due r.lo) (runs_wish x)) (sym (ep ∙ ap (take i) ef ∙ take-take i j rs ij)) a

    high : AllFrom (due_bit r.due hi) (runs_wish after)
    high = subst (λ (x : List WishRun). AllFrom (due_bit r.due hi) (runs_wish x)) (sym ea) b

pub if-ok : {A E : Type 0} (r : Result A E) (P Q : A → Type 0) → ((a : A) → P a → Q a) → IfOk r P → IfOk r Q
if-ok (Ok a) P Q f p = f a p
if-ok (Err e) P Q f p = p

-- the runs after a drive
pub are-runs : (rs ns : List WishRun) (t : Instant) (lo : ℕ) (bs : List Bool) → runs_wish ns ≡ with_bits (runs_wish rs) t lo bs → IsInOrder (runs_wish rs) → EachFilled ns → AreRuns ns
are-runs rs ns t lo bs e h f = record { ordered = subst IsInOrder (sym e) (in_order-bits bs (runs_wish rs) t lo h); filled = f }

pub on-ok : {A E : Type 0} (r : Result A E) (P Q : Type 0) → (P → Q) → OnOk r P → OnOk r Q
on-ok (Ok a) P Q f p = f p
on-ok (Err e) P Q f p = p
