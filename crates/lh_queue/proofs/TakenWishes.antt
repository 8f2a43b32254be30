-- A step of taking the wishes that are due, and of looking at them.
use Rattle.std.proofs.Common.{◌≡◌, ◌≢◌, ◌≤◌, ◌<◌, ℕ, suc, List, [], ◌∷◌, length, Bool, true, false, if◌then◌else◌, nat_eq, Some, None, refl, ap, sym, ◌∙◌, subst, arith}
use Rattle.std.proofs.lemmas.Bool.{eq-eqb, ne_eqb, eqb-false, lt-ltb}
use Rattle.lh_time.specs.declared.Instant.{Instant}
use Rattle.lh_time.specs.Order.{instant_lt, instant_le, instant_eq}
use Rattle.lh_types.specs.History.{values_by}
use Rattle.lh_queue.specs.declared.wish.Wish.{Wish}
use Rattle.lh_queue.specs.Queued.{QueuedWish, AreInOrder, NoneHas, KeysDiffer, NoneDueBefore, EachWithin, BitsWithin, due_later, wish_at}
use Rattle.lh_queue.specs.Holds.{entries}
use Rattle.lh_queue.specs.Buckets.{time, link, next_in}
use Rattle.lh_bits.specs.Writes.{written}
use Rattle.lh_queue.specs.Places.{first_key, starts_at, from_key, rest_from}
use Rattle.lh_queue.proofs.WishPlaces.{fs_upto}
use Rattle.lh_queue.proofs.Entries.{values_of_first, values_of_later, later_stay, due_goes, not_started, not_due_later, all_later, at_one}

module _ (t : Instant) (held more : List QueuedWish) (key : ℕ) (w : Wish) (e : held ≡ record { key = key; wish = w } ∷ more) where
  x : QueuedWish
  x = record { key = key; wish = w }

  pub order_step : AreInOrder held → AreInOrder more
  order_step o = let P : List QueuedWish → Type 0 = AreInOrder in (subst P e o).1

  pub due_step : NoneDueBefore t held → NoneDueBefore t more
  due_step d = let P : List QueuedWish → Type 0 = NoneDueBefore t in (subst P e d).1

  pub within_step : (n m : ℕ) → m ≡ n → EachWithin n held → EachWithin m more
  within_step n m k d = let P : List QueuedWish → Type 0 = EachWithin n in let Q : ℕ → Type 0 = λ i. EachWithin i more in subst Q (sym k) (subst P e d).1

  at_now : starts_at t held ≡ true → w.due ≡ t
  at_now h = at_one w.due t (sym (ap (starts_at t) e) ∙ h)

  pub left_step : starts_at t held ≡ true → due_later t more ≡ due_later t held
  left_step h = sym (ap (due_later t) e ∙ due_goes t (record { key = key; wish = w }) more (at_now h))

  pub bits_step : (now new : List Bool) → AreInOrder held → starts_at t held ≡ true → new ≡ written w.bits now → values_by (entries more) t 0 new ≡ values_by (entries held) t 0 now
  bits_step now new o h n =
      let P : List QueuedWish → Type 0 = AreInOrder in
      ap (values_by (entries more) t 0) n
      ∙ sym (ap (λ xs. values_by (entries xs) t 0 now) e ∙ values_of_first t (record { key = key; wish = w }) more now (subst P e o) (at_now h))

pub left_end : (t : Instant) (held : List QueuedWish) → AreInOrder held → NoneDueBefore t held → starts_at t held ≡ false → held ≡ due_later t held
left_end t held o d n = sym (later_stay t held (not_started t held o d n))

pub bits_end : (t : Instant) (held : List QueuedWish) (now : List Bool) → AreInOrder held → NoneDueBefore t held → starts_at t held ≡ false → now ≡ values_by (entries held) t 0 now
bits_end t held now o d n = sym (values_of_later t held now (not_started t held o d n))

-- the first key leads to all
pub rest_first : (held : List QueuedWish) → rest_from held (first_key held) ≡ held
rest_first [] = refl
rest_first (x ∷ more) = rw (eq-eqb x.key x.key refl) refl

pub rest_none : (held : List QueuedWish) (k : ℕ) → wish_at held k ≡ None → from_key held k ≡ []
rest_none [] k h = refl
rest_none (x ∷ more) k h = at (nat_eq x.key k) h (rest_none more k)
  where
    clash : Some x.wish ≡ None → ⊥
    clash z = cc

    at : (b : Bool) → (if b then Some x.wish else wish_at more k) ≡ None → (wish_at more k ≡ None → from_key more k ≡ []) → (if b then x ∷ more else from_key more k) ≡ []
    at true z ih = absurd (clash z)
    at false z ih = ih z

pub within_at : (n : ℕ) (held : List QueuedWish) (k : ℕ) (w : Wish) → EachWithin n held → wish_at held k ≡ Some w → BitsWithin n w.bits
within_at n [] k w e h = absurd (clash h)
  where
    clash : None ≡ Some w → ⊥
    clash z = cc
within_at n (x ∷ more) k w e h = at (nat_eq x.key k) h (within_at n more k w e.1)
  where
    same : (a b : Wish) → Some a ≡ Some b → a ≡ b
    same a b z = cc

    at : (b : Bool) → (if b then Some x.wish else wish_at more k) ≡ Some w → (wish_at more k ≡ Some w → BitsWithin n w.bits) → BitsWithin n w.bits
    at true z ih = let P : Wish → Type 0 = λ v. BitsWithin n v.bits in subst P (same x.wish w z) e.0
    at false z ih = ih z

pub due_at : (t : Instant) (held : List QueuedWish) (k : ℕ) (w : Wish) → NoneDueBefore t held → wish_at held k ≡ Some w → instant_le t w.due ≡ true
due_at t [] k w e h = absurd (clash h)
  where
    clash : None ≡ Some w → ⊥
    clash z = cc
due_at t (x ∷ more) k w e h = at (nat_eq x.key k) h (due_at t more k w e.1)
  where
    same : (a b : Wish) → Some a ≡ Some b → a ≡ b
    same a b z = cc

    at : (b : Bool) → (if b then Some x.wish else wish_at more k) ≡ Some w → (wish_at more k ≡ Some w → instant_le t w.due ≡ true) → instant_le t w.due ≡ true
    at true z ih = ap (λ (v : Wish). instant_le t v.due) (sym (same x.wish w z)) ∙ e.0
    at false z ih = ih z

-- where the wish of a key stands
pub record AtKey (held : List QueuedWish) (k : ℕ) (w : Wish) : Type 0 where
  pub here : QueuedWish
  pub back : List QueuedWish
  pub from : from_key held k ≡ here ∷ back
  pub wish : here.wish ≡ w
  pub order : AreInOrder (here ∷ back)
  pub next : next_in held k ≡ link here back
  pub follow : (z : QueuedWish) (zs : List QueuedWish) → back ≡ z ∷ zs → from_key held z.key ≡ z ∷ zs

lacks_from : (j k : ℕ) (held : List QueuedWish) (z : QueuedWish) (zs : List QueuedWish) → NoneHas j held → from_key held k ≡ z ∷ zs → z.key ≢ j
lacks_from j k [] z zs n h = absurd (clash h)
  where
    clash : [] ≡ z ∷ zs → ⊥
    clash y = cc
lacks_from j k (x ∷ more) z zs n h = at (nat_eq x.key k) h (lacks_from j k more z zs n.1)
  where
    same : (a b : QueuedWish) (us vs : List QueuedWish) → a ∷ us ≡ b ∷ vs → a ≡ b
    same a b us vs y = cc

    at : (b : Bool) → (if b then x ∷ more else from_key more k) ≡ z ∷ zs → (from_key more k ≡ z ∷ zs → z.key ≢ j) → z.key ≢ j
    at true y ih = λ e. n.0 (ap (λ (v : QueuedWish). v.key) (same x z more zs y) ∙ e)
    at false y ih = ih y

pub at_key : (held : List QueuedWish) (k : ℕ) (w : Wish) → AreInOrder held → KeysDiffer held → wish_at held k ≡ Some w → AtKey held k w
at_key [] k w o u h = absurd (clash h)
  where
    clash : None ≡ Some w → ⊥
    clash z = cc
at_key (x ∷ more) k w o u h = at (nat_eq x.key k) refl h (at_key more k w o.1 u.1)
  where
    same : (a b : Wish) → Some a ≡ Some b → a ≡ b
    same a b z = cc

    skip : (z : QueuedWish) (zs : List QueuedWish) → z.key ≢ x.key → from_key more z.key ≡ z ∷ zs → from_key (x ∷ more) z.key ≡ z ∷ zs
    skip z zs n e = rw (ne_eqb x.key z.key (λ q. n (sym q))) e

    first : (z : QueuedWish) (zs : List QueuedWish) → more ≡ z ∷ zs → from_key (x ∷ more) z.key ≡ z ∷ zs
    first z zs e =
        let P : List QueuedWish → Type 0 = NoneHas x.key in
        skip z zs (subst P e u.0).0 (ap (λ xs. from_key xs z.key) e ∙ itself z zs)
      where
        itself : (z : QueuedWish) (zs : List QueuedWish) → from_key (z ∷ zs) z.key ≡ z ∷ zs
        itself z zs = rw (eq-eqb z.key z.key refl) refl

    at : (b : Bool) → nat_eq x.key k ≡ b → (if b then Some x.wish else wish_at more k) ≡ Some w → (wish_at more k ≡ Some w → AtKey more k w) → AtKey (x ∷ more) k w
    at true e z ih = record {
      here = x;
      back = more;
      from = ap (λ b. if b then x ∷ more else from_key more k) e;
      wish = same x.wish w z;
      order = o;
      next = ap (λ b. if b then link x more else next_in more k) e;
      follow = first;
    }
    at false e z ih = let p = ih z in record {
      here = p.here;
      back = p.back;
      from = ap (λ b. if b then x ∷ more else from_key more k) e ∙ p.from;
      wish = p.wish;
      order = p.order;
      next = ap (λ b. if b then link x more else next_in more k) e ∙ p.next;
      follow = λ y ys q. skip y ys (lacks_from x.key y.key more y ys u.0 (p.follow y ys q)) (p.follow y ys q);
    }

-- one wish is looked at, and what its key leads to is left
pub record Looked (held : List QueuedWish) (k : ℕ) (t : Instant) (now new : List Bool) : Type 0 where
  pub less : length (rest_from held (next_in held k)) < length (from_key held k)
  pub bits : values_by (entries (rest_from held (next_in held k))) t 0 new ≡ values_by (entries (from_key held k)) t 0 now

fs_later : (a b : Instant) → a.fs < b.fs → instant_lt a b ≡ true
fs_later a b h = rw (lt-ltb a.fs b.fs h) refl

rest_at : (held : List QueuedWish) (t : Instant) (here : QueuedWish) (back : List QueuedWish) (new : List Bool) → AreInOrder (here ∷ back) → here.wish.due ≡ t
    → ((z : QueuedWish) (zs : List QueuedWish) → back ≡ z ∷ zs → from_key held z.key ≡ z ∷ zs)
    → (length (rest_from held (link here back)) ≤ length back) × (values_by (entries (rest_from held (link here back))) t 0 new ≡ values_by (entries back) t 0 new)
rest_at held t here [] new o e f = (omega arith, refl)
rest_at held t here (z ∷ zs) new o e f = at (nat_eq (time z) (time here)) refl
  where
    nothing : (xs : List Bool) → values_by [] t 0 xs ≡ xs
    nothing xs = values_of_later t [] xs tt

    at : (b : Bool) → nat_eq (time z) (time here) ≡ b
        → (length (rest_from held (if b then Some z.key else None)) ≤ suc (length zs))
        × (values_by (entries (rest_from held (if b then Some z.key else None))) t 0 new ≡ values_by (entries (z ∷ zs)) t 0 new)
    at true q = (subst (λ xs. length xs ≤ suc (length zs)) (sym (f z zs refl)) (omega arith), ap (λ xs. values_by (entries xs) t 0 new) (f z zs refl))
    at false q =
        let d : time z ≢ time here = eqb-false (time z) (time here) q in
        let h : time here ≤ time z = fs_upto here.wish z.wish o.0.0 in
        let l : time here < time z = omega arith in
        let late : instant_lt t z.wish.due ≡ true = ap (λ u. instant_lt u z.wish.due) (sym e) ∙ fs_later here.wish.due z.wish.due l in
        (omega arith, nothing new ∙ sym (values_of_later t (z ∷ zs) new (late, all_later t z.wish zs late o.1.0)))

pub looked : (held : List QueuedWish) (k : ℕ) (w : Wish) (t : Instant) (now new : List Bool) → AreInOrder held → KeysDiffer held → wish_at held k ≡ Some w → instant_eq w.due t ≡ true
    → new ≡ written w.bits now → Looked held k t now new
looked held k w t now new o u h a n =
    let p = at_key held k w o u h in
    let due : p.here.wish.due ≡ t = ap (λ (v : Wish). v.due) p.wish ∙ at_one w.due t a in
    let r = rest_at held t p.here p.back new p.order due p.follow in
    record {
      less = subst (λ m. length (rest_from held m) < length (from_key held k)) (sym p.next) (subst (λ xs. length (rest_from held (link p.here p.back)) < length xs) (sym p.from) (omega (arith, r.0)));
      bits = ap (λ m. values_by (entries (rest_from held m)) t 0 new) p.next ∙ r.1 ∙ ap (values_by (entries p.back) t 0) (n ∙ ap (λ (v : Wish). written v.bits now) (sym p.wish))
          ∙ sym (values_of_first t p.here p.back now p.order due) ∙ ap (λ xs. values_by (entries xs) t 0 now) (sym p.from);
    }

-- where a wish is not due, nothing that follows sets a bit
pub looked_end : (held : List QueuedWish) (k : ℕ) (w : Wish) (t : Instant) (now : List Bool) → AreInOrder held → KeysDiffer held → NoneDueBefore t held → wish_at held k ≡ Some w
    → instant_eq w.due t ≡ false → now ≡ values_by (entries (from_key held k)) t 0 now
looked_end held k w t now o u d h a =
    let p = at_key held k w o u h in
    let le : instant_le t p.here.wish.due ≡ true = ap (λ (v : Wish). instant_le t v.due) p.wish ∙ due_at t held k w d h in
    let not : instant_eq p.here.wish.due t ≡ false = ap (λ (v : Wish). instant_eq v.due t) p.wish ∙ a in
    sym (ap (λ xs. values_by (entries xs) t 0 now) p.from ∙ values_of_later t (p.here ∷ p.back) now (not_due_later t p.here p.back p.order le not))

pub looked_none : (t : Instant) (now : List Bool) → now ≡ values_by [] t 0 now
looked_none t now = sym (values_of_later t [] now tt)
