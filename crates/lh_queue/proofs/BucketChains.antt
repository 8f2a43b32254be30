-- The buckets and chains with one wish more.
use Rattle.std.proofs.Common.{◌≡◌, ◌≤◌, ◌<◌, ℕ, List, [], ◌∷◌, ◌++◌, length, Bool, true, false, if◌then◌else◌, nat_eq, Some, None, get_or, set, refl, ap, sym, ◌∙◌, arith}
use Rattle.std.specs.List.{insert}
use Rattle.std.proofs.lemmas.Bool.{eqb-true, eq-eqb, ne_eqb, lt-ltb}
use Rattle.slab.specs.Slab.{Slab, get}
use Rattle.lh_queue.specs.declared.queue.Linked.{Linked}
use Rattle.lh_queue.specs.declared.wish.Wish.{Wish}
use Rattle.lh_queue.specs.Queued.{QueuedWish, is_before, IsBeforeAll}
use Rattle.lh_queue.specs.Buckets.{time, link, bucket, buckets_after, buckets_of}
use Rattle.lh_queue.specs.Stored.{AreLinked}
use Rattle.lh_queue.specs.Places.{AreEarlier, AreLater, AllBefore}
use Rattle.lh_queue.proofs.Storage.{Agrees, linked_same}

-- what follows starts at a time or later
abbrev pub StartsFrom : ℕ → List QueuedWish → Type 0
StartsFrom f [] = Unit {0}
StartsFrom f (x ∷ more) = f ≤ time x

pub starts_later : (f : ℕ) (back : List QueuedWish) → AreLater f back → StartsFrom f back
starts_later f [] h = tt
starts_later f (x ∷ more) h = omega (arith, h.0)

link_apart : (z : QueuedWish) (f : ℕ) (back : List QueuedWish) → time z < f → StartsFrom f back → link z back ≡ None
link_apart z f [] h s = refl
link_apart z f (y ∷ ys) h s = rw (ne_eqb (time y) (time z) (λ e. differ (time z) (time y) f h s e)) refl
  where
    differ : (a b f : ℕ) → a < f → f ≤ b → b ≡ a → ⊥
    differ a b f h s e = omega arith

-- a wish between those of earlier times and those that start from its time changes none of the links before it
pub linked_between : (s t : Slab Linked) (f : ℕ) (front : List QueuedWish) (x : QueuedWish) (back : List QueuedWish) → AreLinked s (front ++ back) → Agrees s t (front ++ back)
    → get t x.key ≡ Some (record { wish = x.wish; next = link x back })
    → AreEarlier f front → time x ≡ f → StartsFrom f back → AreLinked t (front ++ x ∷ back)
linked_between s t f [] x back l a g e h b = (g, linked_same s t back l a)
linked_between s t f (z ∷ zs) x back l a g e h b =
    (a.0 ∙ l.0 ∙ ap (λ n. Some (record { wish = z.wish; next = n })) (links zs e.0), linked_between s t f zs x back l.1 a.1 g e.1 h b)
  where
    links : (ys : List QueuedWish) → time z < f → link z (ys ++ back) ≡ link z (ys ++ x ∷ back)
    links [] m = link_apart z f back m b ∙ sym (link_apart z f (x ∷ back) m (omega (arith, h)))
    links (y ∷ ys) m = refl

link_time : (x y : QueuedWish) (back : List QueuedWish) → time x ≡ time y → link x back ≡ link y back
link_time x y [] e = refl
link_time x y (z ∷ zs) e = ap (λ f. if nat_eq (time z) f then Some z.key else None) e

-- a wish behind one of its time
pub linked_behind : (s t : Slab Linked) (front : List QueuedWish) (y x : QueuedWish) (back : List QueuedWish) → AreLinked s (front ++ y ∷ back)
    → get t y.key ≡ Some (record { wish = y.wish; next = Some x.key })
    → get t x.key ≡ Some (record { wish = x.wish; next = link y back }) → time x ≡ time y → Agrees s t front → Agrees s t back → AreLinked t (front ++ y ∷ x ∷ back)
linked_behind s t [] y x back l g h e a b = (
  g ∙ ap (λ n. Some (record { wish = y.wish; next = n })) (sym (on x.key (time x) (time y) e)),
  (h ∙ ap (λ n. Some (record { wish = x.wish; next = n })) (link_time y x back (sym e)), linked_same s t back l.1 b),
)
  where
    on : (k a b : ℕ) → a ≡ b → (if nat_eq a b then Some k else None) ≡ Some k
    on k a b e = rw (eq-eqb a b e) refl
linked_behind s t (z ∷ zs) y x back l g h e a b = (a.0 ∙ l.0 ∙ ap (λ n. Some (record { wish = z.wish; next = n })) (links zs), linked_behind s t zs y x back l.1 g h e a.1 b)
  where
    links : (ys : List QueuedWish) → link z (ys ++ y ∷ back) ≡ link z (ys ++ y ∷ x ∷ back)
    links [] = refl
    links (w ∷ ws) = refl

-- the buckets of what starts later than a time
pub after_later : (g f : ℕ) (back : List QueuedWish) → g < f → StartsFrom f back → buckets_after g back ≡ buckets_of back
after_later g f [] h s = refl
after_later g f (y ∷ ys) h s = rw (ne_eqb (time y) g (λ e. differ g (time y) f h s e)) refl
  where
    differ : (a b f : ℕ) → a < f → f ≤ b → b ≡ a → ⊥
    differ a b f h s e = omega arith

after_append : (g f : ℕ) (front back : List QueuedWish) → g < f → AreEarlier f front → StartsFrom f back → buckets_after g (front ++ back) ≡ buckets_after g front ++ buckets_of back
after_append g f [] back h e s = after_later g f back h s
after_append g f (z ∷ zs) back h e s = at (nat_eq (time z) g) (λ k m. after_append k f zs back m e.1 s)
  where
    at : (b : Bool) → ((k : ℕ) → k < f → buckets_after k (zs ++ back) ≡ buckets_after k zs ++ buckets_of back)
        → (if b then buckets_after g (zs ++ back) else bucket z ∷ buckets_after (time z) (zs ++ back)) ≡ (if b then buckets_after g zs else bucket z ∷ buckets_after (time z) zs) ++ buckets_of back
    at true ih = ih g h
    at false ih = ap (λ bs. bucket z ∷ bs) (ih (time z) e.0)

pub buckets_append : (f : ℕ) (front back : List QueuedWish) → AreEarlier f front → StartsFrom f back → buckets_of (front ++ back) ≡ buckets_of front ++ buckets_of back
buckets_append f [] back e s = refl
buckets_append f (z ∷ zs) back e s = ap (λ bs. bucket z ∷ bs) (after_append (time z) f zs back e.0 e.1 s)

after_behind : (g : ℕ) (front : List QueuedWish) (y x : QueuedWish) (back : List QueuedWish) → time x ≡ time y → buckets_after g (front ++ y ∷ x ∷ back) ≡ buckets_after g (front ++ y ∷ back)
after_behind g [] y x back e = at (nat_eq (time y) g) refl
  where
    skip : (k : ℕ) → time x ≡ k → buckets_after k (x ∷ back) ≡ buckets_after k back
    skip k h = rw (eq-eqb (time x) k h) refl

    at : (b : Bool) → nat_eq (time y) g ≡ b → (if b then buckets_after g (x ∷ back) else bucket y ∷ buckets_after (time y) (x ∷ back))
        ≡ (if b then buckets_after g back else bucket y ∷ buckets_after (time y) back)
    at true h = skip g (e ∙ eqb-true (time y) g h)
    at false h = ap (λ bs. bucket y ∷ bs) (skip (time y) e)
after_behind g (z ∷ zs) y x back e = at (nat_eq (time z) g) (λ k. after_behind k zs y x back e)
  where
    at : (b : Bool) → ((k : ℕ) → buckets_after k (zs ++ y ∷ x ∷ back) ≡ buckets_after k (zs ++ y ∷ back))
        → (if b then buckets_after g (zs ++ y ∷ x ∷ back) else bucket z ∷ buckets_after (time z) (zs ++ y ∷ x ∷ back))
        ≡ (if b then buckets_after g (zs ++ y ∷ back) else bucket z ∷ buckets_after (time z) (zs ++ y ∷ back))
    at true ih = ih g
    at false ih = ap (λ bs. bucket z ∷ bs) (ih (time z))

-- behind one of its time a wish changes no bucket
pub buckets_behind : (front : List QueuedWish) (y x : QueuedWish) (back : List QueuedWish) → time x ≡ time y → buckets_of (front ++ y ∷ x ∷ back) ≡ buckets_of (front ++ y ∷ back)
buckets_behind [] y x back e = ap (λ bs. bucket y ∷ bs) (rw (eq-eqb (time x) (time y) e) refl)
buckets_behind (z ∷ zs) y x back e = ap (λ bs. bucket z ∷ bs) (after_behind (time z) zs y x back e)

pub insert_at : {X : Type 0} (a b : List X) (x : X) → insert (a ++ b) (length a) x ≡ a ++ x ∷ b
insert_at [] b x = refl
insert_at (z ∷ zs) b x = ap (λ xs. z ∷ xs) (insert_at zs b x)

pub set_at : {X : Type 0} (a b : List X) (y x : X) → set (a ++ y ∷ b) (length a) x ≡ a ++ x ∷ b
set_at [] b y x = refl
set_at (z ∷ zs) b y x = ap (λ xs. z ∷ xs) (set_at zs b y x)

pub get_at : {X : Type 0} (a b : List X) (y d : X) → get_or (a ++ y ∷ b) (length a) d ≡ y
get_at [] b y d = refl
get_at (z ∷ zs) b y d = get_at zs b y d

-- by their times
pub fs_first : (a b : Wish) → a.due.fs < b.due.fs → is_before a b ≡ true
fs_first a b h = rw (lt-ltb a.due.fs b.due.fs h) refl

pub before_earlier : (front : List QueuedWish) (w : Wish) → AreEarlier w.due.fs front → AllBefore front w
before_earlier [] w e = tt
before_earlier (z ∷ zs) w e = (fs_first z.wish w e.0, before_earlier zs w e.1)

pub before_later : (back : List QueuedWish) (w : Wish) → AreLater w.due.fs back → IsBeforeAll w back
before_later [] w e = tt
before_later (z ∷ zs) w e = (fs_first w z.wish e.0, before_later zs w e.1)
