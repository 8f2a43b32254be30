-- What is stored is what the keys and buckets lead to, and where one more or one less is stored.
use Rattle.std.proofs.Common.{◌≡◌, ◌≢◌, ◌≤◌, ◌<◌, ⊎_elim, ℕ, zero, suc, ◌+◌, List, [], ◌∷◌, ◌++◌, length, Bool, true, false, if◌then◌else◌, nat_eq, Option, Some, None, IsSome, is_some, option_map, slice_get, slice_index_or, count_by, get_or, set, drop, refl, ap, sym, ◌∙◌, subst, arith}
use Rattle.std.proofs.lemmas.Bool.{eqb-true, ne_eqb, eqb-false}
use Rattle.std.proofs.lemmas.Bool.{cases_eq}
use Rattle.slab.specs.Slab.{Slab, get, slab_len, Updates}
use Rattle.lh_queue.specs.declared.queue.Linked.{Linked}
use Rattle.lh_queue.specs.declared.queue.Bucket.{Bucket}
use Rattle.lh_queue.specs.declared.wish.Wish.{Wish}
use Rattle.lh_queue.specs.Queued.{QueuedWish, Waiting, NoneHas, wish_at}
use Rattle.lh_queue.specs.Buckets.{time, link, next_in, bucket, buckets_after, buckets_of}
use Rattle.lh_queue.specs.Places.{first_key}
use Rattle.lh_queue.specs.Stored.{chain, linked_from, chains_from, held_by, AreLinked, IsStored, StoresSome}

-- those at the front that are due at a time, and the others
run : ℕ → List QueuedWish → List QueuedWish
run fs [] = []
run fs (x ∷ more) = if nat_eq (time x) fs then x ∷ run fs more else []

rest : ℕ → List QueuedWish → List QueuedWish
rest fs [] = []
rest fs (x ∷ more) = if nat_eq (time x) fs then rest fs more else x ∷ more

run_rest : (fs : ℕ) (xs : List QueuedWish) → run fs xs ++ rest fs xs ≡ xs
unfolding run rest
run_rest fs [] = refl
run_rest fs (x ∷ more) = at (nat_eq (time x) fs) (run_rest fs more)
  where
    at : (b : Bool) → run fs more ++ rest fs more ≡ more → (if b then x ∷ run fs more else []) ++ (if b then rest fs more else x ∷ more) ≡ x ∷ more
    at true ih = ap (λ xs. x ∷ xs) ih
    at false ih = refl

-- a chain leads to those of its time
chain_run : (links : Slab Linked) (n : ℕ) (x : QueuedWish) (more : List QueuedWish) → length more ≤ n → AreLinked links more → chain links.slots n (link x more) ≡ run (time x) more
unfolding run
chain_run links zero x [] le l = refl
chain_run links (suc n) x [] le l = refl
chain_run links zero x (y ∷ ys) le l = absurd (omega arith)
chain_run links (suc n) x (y ∷ ys) le l =
    at (nat_eq (time y) (time x)) refl (ap (λ o. linked_from y.key o (λ j. chain links.slots n j)) l.0 ∙ ap (λ xs. y ∷ xs) (chain_run links n y ys (omega arith) l.1))
  where
    at : (b : Bool) → nat_eq (time y) (time x) ≡ b → chain links.slots (suc n) (Some y.key) ≡ y ∷ run (time y) ys
        → chain links.slots (suc n) (if b then Some y.key else None) ≡ (if b then y ∷ run (time x) ys else [])
    at true e follows = follows ∙ ap (λ fs. y ∷ run fs ys) (eqb-true (time y) (time x) e)
    at false e follows = refl

chain_from : (links : Slab Linked) (n : ℕ) (x : QueuedWish) (more : List QueuedWish) → suc (length more) ≤ n → AreLinked links (x ∷ more) → chain links.slots n (Some x.key) ≡ x ∷ run (time x) more
chain_from links zero x more le l = absurd (omega arith)
chain_from links (suc n) x more le l =
    ap (λ o. linked_from x.key o (λ j. chain links.slots n j)) l.0
    ∙ ap (λ xs. x ∷ xs) (chain_run links n x more (omega arith) l.1)

chains_rest : (links : Slab Linked) (n fs : ℕ) (xs : List QueuedWish) → length xs ≤ n → AreLinked links xs → chains_from links.slots n (buckets_after fs xs) ≡ rest fs xs
unfolding run rest
chains_rest links n fs [] le l = refl
chains_rest links n fs (x ∷ more) le l = at (nat_eq (time x) fs) (λ f. chains_rest links n f more (omega arith) l.1)
  where
    at : (b : Bool) → ((f : ℕ) → chains_from links.slots n (buckets_after f more) ≡ rest f more)
        → chains_from links.slots n (if b then buckets_after fs more else bucket x ∷ buckets_after (time x) more) ≡ (if b then rest fs more else x ∷ more)
    at true ih = ih fs
    at false ih =
        ap (λ xs. xs ++ chains_from links.slots n (buckets_after (time x) more)) (chain_from links n x more le l)
        ∙ ap (λ ys. x ∷ run (time x) more ++ ys) (ih (time x))
        ∙ ap (λ ys. x ∷ ys) (run_rest (time x) more)

chains_all : (links : Slab Linked) (n : ℕ) (xs : List QueuedWish) → length xs ≤ n → AreLinked links xs → chains_from links.slots n (buckets_of xs) ≡ xs
unfolding run rest
chains_all links n [] le l = refl
chains_all links n (x ∷ more) le l =
    ap (λ xs. xs ++ chains_from links.slots n (buckets_after (time x) more)) (chain_from links n x more le l)
    ∙ ap (λ ys. x ∷ run (time x) more ++ ys) (chains_rest links n (time x) more (omega arith) l.1)
    ∙ ap (λ ys. x ∷ ys) (run_rest (time x) more)

-- what is stored is what is seen
pub seen : (links : Slab Linked) (buckets : List Bucket) (held : List QueuedWish) → IsStored links buckets held → held_by links buckets ≡ held
unfolding held_by
seen links buckets held s =
    ap (λ bs. chains_from links.slots (slab_len links) bs) s.buckets_are
    ∙ chains_all links (slab_len links) held (omega (arith, s.counted)) s.linked

pub stored : (links : Slab Linked) (buckets : List Bucket) (spare : ℕ) (v : Waiting) → StoresSome links buckets → record { held = held_by links buckets; spare = spare } ≡ v
    → IsStored links buckets v.held
stored links buckets spare v i e =
    let P : List QueuedWish → Type 0 = λ held. IsStored links buckets held in
    subst P (sym (seen links buckets i.0 i.1) ∙ ap (λ (w : Waiting). w.held) e) i.1

-- a wish by its key
pub wish_by : (links : Slab Linked) (held : List QueuedWish) (k : ℕ) → AreLinked links held → (NoneHas k held → get links k ≡ None) → option_map (λ (l : Linked). l.wish) (get links k) ≡ wish_at held k
wish_by links [] k l v = ap (option_map (λ (m : Linked). m.wish)) (v tt)
wish_by links (x ∷ more) k l v = at (nat_eq x.key k) refl (λ n. wish_by links more k l.1 (λ h. v (n, h)))
  where
    at : (b : Bool) → nat_eq x.key k ≡ b → (x.key ≢ k → option_map (λ (m : Linked). m.wish) (get links k) ≡ wish_at more k)
        → option_map (λ (m : Linked). m.wish) (get links k) ≡ (if b then Some x.wish else wish_at more k)
    at true e ih = ap (λ j. option_map (λ (m : Linked). m.wish) (get links j)) (sym (eqb-true x.key k e)) ∙ ap (option_map (λ (m : Linked). m.wish)) l.0
    at false e ih = ih (eqb-false x.key k e)

-- the next key by a key
pub next_by : (links : Slab Linked) (held : List QueuedWish) (k : ℕ) (here : Linked) → AreLinked links held → IsSome (wish_at held k) → get links k ≡ Some here → here.next ≡ next_in held k
next_by links [] k here l s g = absurd (clash s)
  where
    clash : false ≡ true → ⊥
    clash z = cc
next_by links (x ∷ more) k here l s g = at (nat_eq x.key k) refl s (λ h. next_by links more k here l.1 h g)
  where
    same : (a b : Linked) → Some a ≡ Some b → a.next ≡ b.next
    same a b z = let p : a ≡ b = cc in ap (λ (m : Linked). m.next) p

    at : (b : Bool) → nat_eq x.key k ≡ b → IsSome (if b then Some x.wish else wish_at more k) → (IsSome (wish_at more k) → here.next ≡ next_in more k)
        → here.next ≡ (if b then link x more else next_in more k)
    at true e h ih = same here _ (sym g ∙ ap (get links) (sym (eqb-true x.key k e)) ∙ l.0)
    at false e h ih = ih h

pub lacks_at : (held : List QueuedWish) (k : ℕ) → NoneHas k held → wish_at held k ≡ None
lacks_at [] k h = refl
lacks_at (x ∷ more) k h = rw (ne_eqb x.key k h.0) (lacks_at more k h.1)

-- both slabs have the same under the keys of these
abbrev pub Agrees : Slab Linked → Slab Linked → List QueuedWish → Type 0
Agrees s t [] = Unit {0}
Agrees s t (x ∷ more) = (get t x.key ≡ get s x.key) × Agrees s t more

pub agrees_but : (s t : Slab Linked) (k : ℕ) (xs : List QueuedWish) → ((j : ℕ) → j ≢ k → get t j ≡ get s j) → NoneHas k xs → Agrees s t xs
agrees_but s t k [] h n = tt
agrees_but s t k (x ∷ more) h n = (h x.key n.0, agrees_but s t k more h n.1)

pub agrees_two : (s t : Slab Linked) (k i : ℕ) (xs : List QueuedWish) → ((j : ℕ) → j ≢ k → j ≢ i → get t j ≡ get s j) → NoneHas k xs → NoneHas i xs → Agrees s t xs
agrees_two s t k i [] h n m = tt
agrees_two s t k i (x ∷ more) h n m = (h x.key n.0 m.0, agrees_two s t k i more h n.1 m.1)

pub agrees_back : (s t : Slab Linked) (front back : List QueuedWish) → Agrees s t (front ++ back) → Agrees s t back
agrees_back s t [] back a = a
agrees_back s t (z ∷ zs) back a = agrees_back s t zs back a.1

pub linked_same : (s t : Slab Linked) (xs : List QueuedWish) → AreLinked s xs → Agrees s t xs → AreLinked t xs
linked_same s t [] l a = tt
linked_same s t (x ∷ more) l a = (a.0 ∙ l.0, linked_same s t more l.1 a.1)

pub linked_back : (s : Slab Linked) (front back : List QueuedWish) → AreLinked s (front ++ back) → AreLinked s back
linked_back s [] back l = l
linked_back s (z ∷ zs) back l = linked_back s zs back l.1

-- where the first of a bucket is taken out and others are left in it, the next one is the first
pub popped_on : (x : QueuedWish) (more : List QueuedWish) (k : ℕ) → link x more ≡ Some k → buckets_of more ≡ record { fs = time x; first = k } ∷ buckets_after (time x) more
popped_on x [] k h = absurd (none k h)
  where
    none : (k : ℕ) → None ≡ Some k → ⊥
    none k z = cc
popped_on x (y ∷ ys) k h = at (nat_eq (time y) (time x)) refl h
  where
    new_bucket : (f g k j : ℕ) (more : List Bucket) → f ≡ g → k ≡ j → (record { fs = f; first = k } ∷ more) ≡ (record { fs = g; first = j } ∷ more)
    new_bucket f g k j more p q = cc

    same : (a b : ℕ) → Some a ≡ Some b → a ≡ b
    same a b z = cc

    none : None ≡ Some k → ⊥
    none z = cc

    at : (b : Bool) → nat_eq (time y) (time x) ≡ b → (if b then Some y.key else None) ≡ Some k
        → buckets_of (y ∷ ys) ≡ record { fs = time x; first = k } ∷ (if b then buckets_after (time x) ys else bucket y ∷ buckets_after (time y) ys)
    at true e z =
        ap (λ f. bucket y ∷ buckets_after f ys) (eqb-true (time y) (time x) e)
        ∙ new_bucket (time y) (time x) y.key k (buckets_after (time x) ys) (eqb-true (time y) (time x) e) (same y.key k z)
    at false e z = absurd (none z)

-- where none is left in it, the bucket goes
pub popped_out : (x : QueuedWish) (more : List QueuedWish) → link x more ≡ None → buckets_of more ≡ buckets_after (time x) more
popped_out x [] h = refl
popped_out x (y ∷ ys) h = at (nat_eq (time y) (time x)) h
  where
    none : Some y.key ≡ None → ⊥
    none z = cc

    at : (b : Bool) → (if b then Some y.key else None) ≡ None → buckets_of (y ∷ ys) ≡ (if b then buckets_after (time x) ys else bucket y ∷ buckets_after (time y) ys)
    at true z = absurd (none z)
    at false z = refl

-- the first wish is taken out
pub stored_rest : (s t : Slab Linked) (buckets : List Bucket) (x : QueuedWish) (more : List QueuedWish) → (before : List Bucket) → IsStored s before (x ∷ more) → Updates s t x.key None
    → slab_len t + 1 ≡ slab_len s → buckets ≡ buckets_of more → IsStored t buckets more
stored_rest s t buckets x more before i u n b = record {
  linked = linked_same s t more i.linked.1 (agrees_but s t x.key more u.others i.keys.0);
  vacant = λ k h. ⊎_elim (λ e. ap (get t) e ∙ u.changed) (λ d. u.others k d ∙ i.vacant k (λ e. d (sym e), h)) (cases_eq k x.key);
  counted = omega (arith, n, i.counted);
  buckets_are = b;
  keys = i.keys.1;
  order = i.order.1;
  once = i.once.1;
}

pub some_map : (o : Option Linked) → IsSome (option_map (λ (l : Linked). l.wish) o) → IsSome o
some_map None h = h
some_map (Some l) h = h

-- the first key of the first bucket is that of the first wish
pub first_by : (held : List QueuedWish) (o : Option Bucket) (buckets : List Bucket) → buckets ≡ buckets_of held → o ≡ slice_get buckets 0 → option_map (λ (b : Bucket). b.first) o ≡ first_key held
first_by [] o buckets e h = ap (option_map (λ (b : Bucket). b.first)) (h ∙ ap (λ bs. slice_get bs 0) e)
first_by (x ∷ more) o buckets e h = ap (option_map (λ (b : Bucket). b.first)) (h ∙ ap (λ bs. slice_get bs 0) e)

-- nothing is stored
pub nothing_stored : (links : Slab Linked) (buckets : List Bucket) → links.slots ≡ [] → buckets ≡ [] → IsStored links buckets []
nothing_stored links buckets e b = record {
  linked = tt;
  vacant = λ k h. ap (λ ss. slice_index_or ss k None) e;
  counted = ap (count_by is_some) e;
  buckets_are = b;
  keys = tt;
  order = tt;
  once = tt;
}

agrees_slots : (s t : Slab Linked) (xs : List QueuedWish) → ((j : ℕ) → get t j ≡ get s j) → Agrees s t xs
agrees_slots s t [] h = tt
agrees_slots s t (x ∷ more) h = (h x.key, agrees_slots s t more h)

-- the same is stored where the slots and buckets are the same
pub stored_same : (s t : Slab Linked) (buckets bs : List Bucket) (held : List QueuedWish) → IsStored s buckets held → t.slots ≡ s.slots → bs ≡ buckets → IsStored t bs held
stored_same s t buckets bs held i e b = record {
  linked = linked_same s t held i.linked (agrees_slots s t held (λ j. ap (λ ss. slice_index_or ss j None) e));
  vacant = λ k h. ap (λ ss. slice_index_or ss k None) e ∙ i.vacant k h;
  counted = ap (count_by is_some) e ∙ i.counted;
  buckets_are = b ∙ i.buckets_are;
  keys = i.keys;
  order = i.order;
  once = i.once;
}

-- the first wish is taken out, and the others are stored so
abbrev pub TakesFirstWish : Slab Linked → List Bucket → List QueuedWish → Wish → Type 0
TakesFirstWish t bs held w = (key : ℕ) × (more : List QueuedWish) × IsStored t bs more × (held ≡ record { key = key; wish = w } ∷ more)

pub some_bucket : (s : Slab Linked) (buckets : List Bucket) (held : List QueuedWish) → IsStored s buckets held → held ≢ [] → 0 < length buckets
some_bucket s buckets [] i h = absurd (h refl)
some_bucket s buckets (x ∷ more) i h = let P : List Bucket → Type 0 = λ bs. 0 < length bs in subst P (sym i.buckets_are) (omega arith)

first_bucket : (s : Slab Linked) (buckets : List Bucket) (x : QueuedWish) (more : List QueuedWish) (b : Bucket) → IsStored s buckets (x ∷ more) → b ≡ get_or buckets 0 b → b ≡ bucket x
first_bucket s buckets x more b i e = e ∙ ap (λ bs. get_or bs 0 b) i.buckets_are

pub first_there : (s : Slab Linked) (buckets : List Bucket) (held : List QueuedWish) (b : Bucket) → IsStored s buckets held → held ≢ [] → b ≡ get_or buckets 0 b → IsSome (get s b.first)
first_there s buckets [] b i h e = absurd (h refl)
first_there s buckets (x ∷ more) b i h e = ap (λ (d : Bucket). is_some (get s d.first)) (first_bucket s buckets x more b i e) ∙ ap is_some i.linked.0

-- what the first bucket leads to
record IsFirst (s t : Slab Linked) (x : QueuedWish) (more : List QueuedWish) (l : Linked) : Type 0 where
  wish : l.wish ≡ x.wish
  next : l.next ≡ link x more
  updates : Updates s t x.key None

is_first : (s t : Slab Linked) (buckets : List Bucket) (x : QueuedWish) (more : List QueuedWish) (b : Bucket) (l : Linked) → IsStored s buckets (x ∷ more) → b ≡ get_or buckets 0 b
    → get s b.first ≡ Some l → Updates s t b.first None → IsFirst s t x more l
is_first s t buckets x more b l i e g u =
    let key : b.first ≡ x.key = ap (λ (d : Bucket). d.first) (first_bucket s buckets x more b i e) in
    let same : Some l ≡ Some (record { wish = x.wish; next = link x more }) = sym g ∙ ap (get s) key ∙ i.linked.0 in
    let P : ℕ → Type 0 = λ k. Updates s t k None in
    record { wish = ap (λ (m : Linked). m.wish) (some_same _ _ same); next = ap (λ (m : Linked). m.next) (some_same _ _ same); updates = subst P key u }
  where
    some_same : (m n : Linked) → Some m ≡ Some n → m ≡ n
    some_same m n z = cc

held_first : (x : QueuedWish) (more : List QueuedWish) (w : Wish) → w ≡ x.wish → (x ∷ more) ≡ (record { key = x.key; wish = w } ∷ more)
held_first x more w e = ap (λ v. record { key = x.key; wish = v } ∷ more) (sym e)

pub taken_on : (s t : Slab Linked) (buckets bs : List Bucket) (held : List QueuedWish) (b d : Bucket) (l : Linked) (key : ℕ) → IsStored s buckets held → held ≢ [] → b ≡ get_or buckets 0 b
    → get s b.first ≡ Some l
    → Updates s t b.first None → slab_len t + 1 ≡ slab_len s → l.next ≡ Some key → d ≡ get_or buckets 0 d → bs ≡ set buckets 0 (record { fs = d.fs; first = key }) → TakesFirstWish t bs held l.wish
taken_on s t buckets bs [] b d l key i h e g u n k f m = absurd (h refl)
taken_on s t buckets bs (x ∷ more) b d l key i h e g u n k f m =
    let o = is_first s t buckets x more b l i e g u in
    let at : link x more ≡ Some key = sym o.next ∙ k in
    let fs : d.fs ≡ time x = ap (λ (c : Bucket). c.fs) (first_bucket s buckets x more d i f) in
    let now : bs ≡ record { fs = time x; first = key } ∷ buckets_after (time x) more =
    m ∙ ap (λ cs. set cs 0 (record { fs = d.fs; first = key })) i.buckets_are ∙ ap (λ f. record { fs = f; first = key } ∷ buckets_after (time x) more) fs in
    (x.key, more, stored_rest s t bs x more buckets i o.updates n (now ∙ sym (popped_on x more key at)), held_first x more l.wish o.wish)

pub taken_out : (s t : Slab Linked) (buckets bs : List Bucket) (held : List QueuedWish) (b : Bucket) (l : Linked) → IsStored s buckets held → held ≢ [] → b ≡ get_or buckets 0 b
    → get s b.first ≡ Some l
    → Updates s t b.first None → slab_len t + 1 ≡ slab_len s → l.next ≡ None → bs ≡ drop 1 buckets → TakesFirstWish t bs held l.wish
taken_out s t buckets bs [] b l i h e g u n k f = absurd (h refl)
taken_out s t buckets bs (x ∷ more) b l i h e g u n k f =
    let o = is_first s t buckets x more b l i e g u in
    let at : link x more ≡ None = sym o.next ∙ k in
    let now : bs ≡ buckets_after (time x) more = f ∙ ap (drop 1) i.buckets_are in
    (x.key, more, stored_rest s t bs x more buckets i o.updates n (now ∙ sym (popped_out x more at)), held_first x more l.wish o.wish)

-- no bucket stands past the end, and one before it
pub none_at : (buckets : List Bucket) (k : ℕ) → length buckets ≤ k → None ≡ slice_get buckets k
none_at [] k h = refl
none_at (b ∷ more) zero h = absurd (omega arith)
none_at (b ∷ more) (suc k) h = none_at more k (omega arith)

pub some_at : (buckets : List Bucket) (k : ℕ) (b : Bucket) → b ≡ get_or buckets k b → k < length buckets → Some b ≡ slice_get buckets k
some_at [] k b e h = absurd (omega arith)
some_at (d ∷ more) zero b e h = ap Some e
some_at (d ∷ more) (suc k) b e h = some_at more k b e (omega arith)
