-- The entries of held wishes, one by one.
use Rattle.std.proofs.Common.{◌≡◌, ◌⊎◌, inl, inr, ⊎_elim, ℕ, List, [], ◌∷◌, ◌++◌, Bool, true, false, if◌then◌else◌, Option, Some, None, refl, ap, sym, ◌∙◌, subst}
use Rattle.std.specs.declared.cmp.Ordering.TheVariants.{Less, Equal}
use Rattle.lh_time.specs.declared.Instant.{Instant}
use Rattle.lh_time.specs.Order.{instant_lt}
use Rattle.lh_time.proofs.OrderLemmas.{instant_lt-le_lt, is_less}
use Rattle.lh_types.specs.History.{Claim, claim_cmp, IsAmong, entries_of}
use Rattle.lh_history_laws.proofs.Claims.{among_parts}
use Rattle.lh_queue.specs.declared.wish.Wish.{Wish}
use Rattle.lh_queue.specs.Queued.{QueuedWish, is_before, IsBeforeAll, AreInOrder, NamesOnce, IsUnnamed, EachNamesOnce, with_held, due_later}
use Rattle.lh_queue.specs.Holds.{wish_entries, entries, IsAfter, IsFrom, HoldsFor, HoldsOn, HoldsOneWishMore}

pub among_left : (xs ys : List Claim) (c : Claim) → IsAmong c xs → IsAmong c (xs ++ ys)
among_left [] ys c h = absurd h
among_left (x ∷ xs) ys c (inl p) = inl p
among_left (x ∷ xs) ys c (inr h) = inr (among_left xs ys c h)

pub among_right : (xs ys : List Claim) (c : Claim) → IsAmong c ys → IsAmong c (xs ++ ys)
among_right [] ys c h = h
among_right (x ∷ xs) ys c h = inr (among_right xs ys c h)

-- where an entry of a wish comes from
pub record Origin (due made : Instant) (i : ℕ) (es : List (ℕ × Bool)) (c : Claim) : Type 0 where
  pub when : c.due ≡ due
  pub made_at : c.made ≡ made
  pub who : c.instance ≡ i

pub origin : (due made : Instant) (i : ℕ) (es : List (ℕ × Bool)) (c : Claim) → IsAmong c (entries_of due made i es) → Origin due made i es c
origin due made i [] c h = absurd h
origin due made i (e ∷ es) c (inl p) = record { when = ap (λ (d : Claim). d.due) (sym p); made_at = ap (λ (d : Claim). d.made) (sym p); who = ap (λ (d : Claim). d.instance) (sym p) }
origin due made i (e ∷ es) c (inr h) = let o = origin due made i es c h in record { when = o.when; made_at = o.made_at; who = o.who }

unnamed : (due made : Instant) (i bit : ℕ) (es : List (ℕ × Bool)) (c : Claim) → IsUnnamed bit es → IsAmong c (entries_of due made i es) → c.bit ≡ bit → ⊥
unnamed due made i bit [] c u h b = absurd h
unnamed due made i bit (e ∷ es) c u (inl p) b = u.0 (ap (λ (d : Claim). d.bit) p ∙ b)
unnamed due made i bit (e ∷ es) c u (inr h) b = unnamed due made i bit es c u.1 h b

-- a wish gives a bit once
one_of : (due made : Instant) (i : ℕ) (es : List (ℕ × Bool)) (c d : Claim) → NamesOnce es → IsAmong c (entries_of due made i es) → IsAmong d (entries_of due made i es) → c.bit ≡ d.bit
    → c.value ≡ d.value
one_of due made i [] c d n h k b = absurd h
one_of due made i (e ∷ es) c d n (inl p) (inl q) b = ap (λ (x : Claim). x.value) (sym p ∙ q)
one_of due made i (e ∷ es) c d n (inl p) (inr k) b = absurd (unnamed due made i e.0 es d n.0 k (sym b ∙ ap (λ (x : Claim). x.bit) (sym p)))
one_of due made i (e ∷ es) c d n (inr h) (inl q) b = absurd (unnamed due made i e.0 es c n.0 h (b ∙ ap (λ (x : Claim). x.bit) (sym q)))
one_of due made i (e ∷ es) c d n (inr h) (inr k) b = one_of due made i es c d n.1 h k b

same_place : (w : Wish) (c d : Claim) → IsAmong c (wish_entries w) → claim_cmp c d ≡ claim_cmp (record { due = w.due; made = w.made; instance = w.instance; bit = c.bit; value = c.value }) d
same_place w c d h =
    let o = origin w.due w.made w.instance w.bits c h in
    let same : c ≡ record { due = w.due; made = w.made; instance = w.instance; bit = c.bit; value = c.value } = eq c w.due w.made w.instance o.when o.made_at o.who in
    ap (λ x. claim_cmp x d) same
  where
    eq : (c : Claim) (t u : Instant) (i : ℕ) → c.due ≡ t → c.made ≡ u → c.instance ≡ i → c ≡ record { due = t; made = u; instance = i; bit = c.bit; value = c.value }
    eq c t u i p q r = rw (← p, ← q, ← r) refl

-- an entry of a wish comes before each entry of a later one
before_of : (w y : Wish) (c d : Claim) → IsAmong c (wish_entries w) → IsAmong d (wish_entries y) → is_before w y ≡ true → claim_cmp c d ≡ Less
before_of w y c d h k b =
    let o = origin y.due y.made y.instance y.bits d k in
    same_place w c d h ∙ at d y.due y.made y.instance o.when o.made_at o.who (is_less _ b)
  where
    at : (d : Claim) (t u : Instant) (i : ℕ) → d.due ≡ t → d.made ≡ u → d.instance ≡ i
        → claim_cmp (record { due = w.due; made = w.made; instance = w.instance; bit = c.bit; value = c.value }) (record { due = t; made = u; instance = i; bit = d.bit; value = d.value }) ≡ Less
        → claim_cmp (record { due = w.due; made = w.made; instance = w.instance; bit = c.bit; value = c.value }) d ≡ Less
    at d t u i p q r l = rw (p, q, r) l

before_each : (w : Wish) (more : List QueuedWish) (c d : Claim) → IsAmong c (wish_entries w) → IsBeforeAll w more → IsAmong d (entries more) → claim_cmp c d ≡ Less
before_each w [] c d h b k = absurd k
before_each w (y ∷ ys) c d h b k = ⊎_elim (λ l. before_of w y.wish c d h l b.0) (λ l. before_each w ys c d h b.1 l) (among_parts (wish_entries y.wish) (entries ys) d k)

-- no two entries of held wishes compete
pub one_each : (held : List QueuedWish) → AreInOrder held → EachNamesOnce held → (c d : Claim) → IsAmong c (entries held) → IsAmong d (entries held) → c.bit ≡ d.bit → claim_cmp c d ≡ Equal
    → claim_cmp d c ≡ Equal → c.value ≡ d.value
one_each [] o n c d h k b e f = absurd h
one_each (x ∷ more) o n c d h k b e f =
    at (among_parts (wish_entries x.wish) (entries more) c h) (among_parts (wish_entries x.wish) (entries more) d k) (λ p q. one_each more o.1 n.1 c d p q b e f)
  where
    clash : Less ≡ Equal → ⊥
    clash z = cc

    at : IsAmong c (wish_entries x.wish) ⊎ IsAmong c (entries more) → IsAmong d (wish_entries x.wish) ⊎ IsAmong d (entries more)
        → (IsAmong c (entries more) → IsAmong d (entries more) → c.value ≡ d.value) → c.value ≡ d.value
    at (inl p) (inl q) ih = one_of x.wish.due x.wish.made x.wish.instance x.wish.bits c d n.0 p q b
    at (inl p) (inr q) ih = absurd (clash (sym (before_each x.wish more c d p o.0 q) ∙ e))
    at (inr p) (inl q) ih = absurd (clash (sym (before_each x.wish more d c q o.0 p) ∙ f))
    at (inr p) (inr q) ih = ih p q

-- with one wish more
more_to : (held : List QueuedWish) (x : QueuedWish) (c : Claim) → IsAmong c (entries (with_held held x)) → IsAmong c (entries held) ⊎ IsAmong c (wish_entries x.wish)
more_to [] x c h = ⊎_elim inr (λ k. absurd k) (among_parts (wish_entries x.wish) [] c h)
more_to (y ∷ ys) x c h = at (is_before x.wish y.wish) h (more_to ys x c)
  where
    at : (b : Bool) → IsAmong c (entries (if b then x ∷ y ∷ ys else y ∷ with_held ys x)) → (IsAmong c (entries (with_held ys x)) → IsAmong c (entries ys) ⊎ IsAmong c (wish_entries x.wish))
        → IsAmong c (entries (y ∷ ys)) ⊎ IsAmong c (wish_entries x.wish)
    at true k ih = ⊎_elim inr inl (among_parts (wish_entries x.wish) (entries (y ∷ ys)) c k)
    at false k ih = ⊎_elim (λ l. inl (among_left (wish_entries y.wish) (entries ys) c l)) (λ l. ⊎_elim (λ m. inl (among_right (wish_entries y.wish) (entries ys) c m)) inr (ih l))
        (among_parts (wish_entries y.wish) (entries (with_held ys x)) c k)

more_from : (held : List QueuedWish) (x : QueuedWish) (c : Claim) → IsAmong c (entries held) ⊎ IsAmong c (wish_entries x.wish) → IsAmong c (entries (with_held held x))
more_from [] x c h = ⊎_elim (λ k. absurd k) (λ k. among_left (wish_entries x.wish) [] c k) h
more_from (y ∷ ys) x c h = at (is_before x.wish y.wish) h (more_from ys x c)
  where
    at : (b : Bool) → IsAmong c (entries (y ∷ ys)) ⊎ IsAmong c (wish_entries x.wish) → (IsAmong c (entries ys) ⊎ IsAmong c (wish_entries x.wish) → IsAmong c (entries (with_held ys x)))
        → IsAmong c (entries (if b then x ∷ y ∷ ys else y ∷ with_held ys x))
    at true k ih = ⊎_elim (λ l. among_right (wish_entries x.wish) (entries (y ∷ ys)) c l) (λ l. among_left (wish_entries x.wish) (entries (y ∷ ys)) c l) k
    at false k ih = ⊎_elim
        (λ l. ⊎_elim (λ m. among_left (wish_entries y.wish) (entries (with_held ys x)) c m) (λ m. among_right (wish_entries y.wish) (entries (with_held ys x)) c (ih (inl m)))
        (among_parts (wish_entries y.wish) (entries ys) c l))
        (λ l. among_right (wish_entries y.wish) (entries (with_held ys x)) c (ih (inr l))) k

pub holds_more : (old new : List QueuedWish) (x : QueuedWish) → new ≡ with_held old x → HoldsOneWishMore old x.wish new
holds_more old new x e all last h a =
    let P : List QueuedWish → Type 0 = λ xs. HoldsFor xs (all ++ wish_entries x.wish) last in
    subst P (sym e) (record {
      due = λ c. (
        λ k. ⊎_elim (λ l. let p = (h.due c).0 l in (among_left all (wish_entries x.wish) c p.0, p.1)) (λ l. (among_right all (wish_entries x.wish) c l, after c l)) (more_to old x c k),
        λ k. more_from old x c (⊎_elim (λ l. inl ((h.due c).1 (l, k.1))) inr (among_parts all (wish_entries x.wish) c k.0)),
      );
    })
  where
    after : (c : Claim) → IsAmong c (wish_entries x.wish) → IsAfter last c.due
    after c l = let Q : Instant → Type 0 = λ t. IsAfter last t in let o = origin x.wish.due x.wish.made x.wish.instance x.wish.bits c l in subst Q (sym o.when) a

-- those due later
later_to : (t : Instant) (held : List QueuedWish) (c : Claim) → IsAmong c (entries (due_later t held)) → IsAmong c (entries held) × (instant_lt t c.due ≡ true)
later_to t [] c h = absurd h
later_to t (x ∷ more) c h = at (instant_lt t x.wish.due) refl h (later_to t more c)
  where
    at : (b : Bool) → instant_lt t x.wish.due ≡ b → IsAmong c (entries (if b then x ∷ due_later t more else due_later t more))
        → (IsAmong c (entries (due_later t more)) → IsAmong c (entries more) × (instant_lt t c.due ≡ true))
        → IsAmong c (entries (x ∷ more)) × (instant_lt t c.due ≡ true)
    at true e k ih = ⊎_elim
        (λ l. let o = origin x.wish.due x.wish.made x.wish.instance x.wish.bits c l in (among_left (wish_entries x.wish) (entries more) c l, ap (instant_lt t) o.when ∙ e))
        (λ l. let p = ih l in (among_right (wish_entries x.wish) (entries more) c p.0, p.1))
        (among_parts (wish_entries x.wish) (entries (due_later t more)) c k)
    at false e k ih = let p = ih k in (among_right (wish_entries x.wish) (entries more) c p.0, p.1)

later_from : (t : Instant) (held : List QueuedWish) (c : Claim) → IsAmong c (entries held) → instant_lt t c.due ≡ true → IsAmong c (entries (due_later t held))
later_from t [] c h l = absurd h
later_from t (x ∷ more) c h l = at (instant_lt t x.wish.due) refl (among_parts (wish_entries x.wish) (entries more) c h) (λ k. later_from t more c k l)
  where
    clash : true ≡ false → ⊥
    clash z = cc

    at : (b : Bool) → instant_lt t x.wish.due ≡ b → IsAmong c (wish_entries x.wish) ⊎ IsAmong c (entries more) → (IsAmong c (entries more) → IsAmong c (entries (due_later t more)))
        → IsAmong c (entries (if b then x ∷ due_later t more else due_later t more))
    at true e (inl k) ih = among_left (wish_entries x.wish) (entries (due_later t more)) c k
    at true e (inr k) ih = among_right (wish_entries x.wish) (entries (due_later t more)) c (ih k)
    at false e (inl k) ih = let o = origin x.wish.due x.wish.made x.wish.instance x.wish.bits c k in absurd (clash (sym l ∙ ap (instant_lt t) o.when ∙ e))
    at false e (inr k) ih = ih k

pub holds_on : (old new : List QueuedWish) (t : Instant) → new ≡ due_later t old → HoldsOn old t new
holds_on old new t e all last h f =
    let P : List QueuedWish → Type 0 = λ xs. HoldsFor xs all (Some t) in
    subst P (sym e) (record {
      due = λ c. (
        λ k. let p = later_to t old c k in (((h.due c).0 p.0).0, p.1),
        λ k. later_from t old c ((h.due c).1 (k.0, after last c f k.1)) k.1,
      );
    })
  where
    after : (l : Option Instant) (c : Claim) → IsFrom l t → instant_lt t c.due ≡ true → IsAfter l c.due
    after None c g k = tt
    after (Some l) c g k = instant_lt-le_lt l t c.due g k

-- where nothing was wished, nothing is held
pub holds_nothing : (held : List QueuedWish) → held ≡ [] → HoldsFor held [] None
holds_nothing held e = let P : List QueuedWish → Type 0 = λ xs. HoldsFor xs [] None in subst P (sym e) (record { due = λ c. (λ k. absurd k, λ k. absurd k.0) })
