-- A wish that is put at its place is stored with the others.
use Rattle.std.proofs.Common.{◌≡◌, ◌≢◌, ◌≤◌, ◌<◌, ℕ, ◌+◌, ◌-◌, min, List, [], ◌∷◌, ◌++◌, length, Option, Some, None, IsSome, is_some, get_or, set, count_by, cond, zero, suc, if◌then◌else◌, nat_eq, refl, ap, sym, ◌∙◌, subst, arith}
use Rattle.std.specs.List.{insert}
use Rattle.std.proofs.lemmas.Bool.{eq-eqb, ne_eqb}
use Rattle.std.proofs.lemmas.List.Sums.{sum_by-cons}
use Rattle.slab.proofs.SlabLemmas.{Updates-with_value}
use Rattle.std.proofs.lemmas.List.{append_assoc, length-append}
use Rattle.slab.specs.Slab.{Slab, get, slab_len, Updates, with_value}
use Rattle.lh_queue.specs.declared.queue.Linked.{Linked}
use Rattle.lh_queue.specs.declared.queue.Bucket.{Bucket}
use Rattle.lh_queue.specs.declared.wish.Wish.{Wish}
use Rattle.lh_queue.specs.Queued.{QueuedWish, IsBeforeAll, NoneHas, NamesOnce, with_held}
use Rattle.lh_queue.specs.Buckets.{time, link, bucket, buckets_after, buckets_of}
use Rattle.lh_queue.specs.Stored.{AreLinked, IsStored}
use Rattle.lh_queue.specs.Places.{AreEarlier, AreLater, AllBefore, GoesAlone, IsFirstInBucket, GoesAfter}
use Rattle.lh_queue.proofs.Storage.{agrees_but, agrees_two, linked_back}
use Rattle.lh_queue.proofs.Order.{order_insert, with_held_between, none_inserted, keys_insert, once_insert, none_front, none_back, others_lack}
use Rattle.lh_queue.proofs.BucketChains.{starts_later, linked_between, linked_behind, after_later, buckets_append, buckets_behind, insert_at, set_at, get_at, before_earlier, before_later}

-- a wish is put under a free key, and stored with the others
abbrev pub Puts : Slab Linked → List Bucket → List QueuedWish → ℕ → Wish → Type 0
Puts t bs held key w = NoneHas key held × IsStored t bs (with_held held (record { key = key; wish = w }))

free_key : (s : Slab Linked) (held : List QueuedWish) (k : ℕ) → AreLinked s held → get s k ≡ None → NoneHas k held
free_key s [] k l g = tt
free_key s (x ∷ more) k l g = (λ e. clash _ (sym (sym l.0 ∙ ap (get s) e ∙ g)), free_key s more k l.1 g)
  where
    clash : (m : Linked) → None ≡ Some m → ⊥
    clash m z = cc

length_between : (front : List QueuedWish) (x : QueuedWish) (back : List QueuedWish) → length (front ++ x ∷ back) ≡ length (front ++ back) + 1
length_between [] x back = omega arith
length_between (z ∷ zs) x back = omega (arith, length_between zs x back)

-- what is stored of the others is enough
put_between : (s t : Slab Linked) (buckets bs : List Bucket) (front : List QueuedWish) (x : QueuedWish) (back : List QueuedWish) → IsStored s buckets (front ++ back) → NoneHas x.key (front ++ back)
    → AreLinked t (front ++ x ∷ back) → ((k : ℕ) → NoneHas k (front ++ x ∷ back) → get t k ≡ None) → bs ≡ buckets_of (front ++ x ∷ back) → AllBefore front x.wish → IsBeforeAll x.wish back
    → NamesOnce x.wish.bits → slab_len t ≡ slab_len s + 1 → IsStored t bs (with_held (front ++ back) x)
put_between s t buckets bs front x back i n l v b a z o c =
    let P : List QueuedWish → Type 0 = λ held. IsStored t bs held in
    subst P (sym (with_held_between front x back a z)) (record {
      linked = l;
      vacant = v;
      counted = c ∙ ap (λ m. m + 1) i.counted ∙ sym (length_between front x back);
      buckets_are = b;
      keys = keys_insert front x back i.keys n;
      order = order_insert front x back i.order a z;
      once = once_insert front x back i.once o;
    })

vacant_still : (s t : Slab Linked) (buckets : List Bucket) (front : List QueuedWish) (x : QueuedWish) (back : List QueuedWish) → IsStored s buckets (front ++ back)
    → ((j : ℕ) → j ≢ x.key → get t j ≡ get s j)
    → (k : ℕ) → NoneHas k (front ++ x ∷ back) → get t k ≡ None
vacant_still s t buckets front x back i u k h =
    let r = none_inserted k front x back h in
    u k (λ e. r.0 (sym e)) ∙ i.vacant k r.1

module _ (s t : Slab Linked) (buckets bs : List Bucket) (w : Wish) (key : ℕ) where
  at_alone : (k : ℕ) (front back : List QueuedWish) → IsStored s buckets (front ++ back) → length (buckets_of front) ≡ k → AreEarlier w.due.fs front → AreLater w.due.fs back → NamesOnce w.bits
      → get s key ≡ None
      → Updates s t key (Some (record { wish = w; next = None })) → slab_len t ≡ slab_len s + 1 → bs ≡ insert buckets k (record { fs = w.due.fs; first = key }) → Puts t bs (front ++ back) key w
  at_alone k front back i p e l o g u n b =
      let free = free_key s (front ++ back) key i.linked g in
      let from = starts_later w.due.fs back l in
      let x : QueuedWish = record { key = key; wish = w } in
      let none : link x back ≡ None = alone back l in
      let laid : bs ≡ buckets_of (front ++ x ∷ back) =
      b ∙ ap (λ cs. insert cs k (bucket x)) (i.buckets_are ∙ buckets_append w.due.fs front back e from)
      ∙ ap (λ m. insert (buckets_of front ++ buckets_of back) m (bucket x)) (sym p)
      ∙ insert_at (buckets_of front) (buckets_of back) (bucket x)
      ∙ ap (λ cs. buckets_of front ++ bucket x ∷ cs) (sym (later back l))
      ∙ sym (buckets_append w.due.fs front (x ∷ back) e (omega arith)) in (
        free,
        put_between s t buckets bs front x back i free
            (linked_between s t w.due.fs front x back i.linked (agrees_but s t key (front ++ back) u.others free) (u.changed ∙ ap (λ m. Some (record { wish = w; next = m })) (sym none)) e refl from)
            (vacant_still s t buckets front x back i u.others) laid (before_earlier front w e) (before_later back w l) o n,
      )
    where
      alone : (ys : List QueuedWish) → AreLater w.due.fs ys → link (record { key = key; wish = w }) ys ≡ None
      alone [] h = refl
      alone (y ∷ ys) h = rw (ne_eqb (time y) w.due.fs (λ e. differ w.due.fs (time y) h.0 e)) refl
        where
          differ : (a b : ℕ) → a < b → b ≡ a → ⊥
          differ a b h e = omega arith

      later : (ys : List QueuedWish) → AreLater w.due.fs ys → buckets_after w.due.fs ys ≡ buckets_of ys
      later [] h = refl
      later (y ∷ ys) h = after_later w.due.fs (time y) (y ∷ ys) h.0 (omega arith)

  pub put_alone : (k : ℕ) (held : List QueuedWish) → IsStored s buckets held → GoesAlone held w k → NamesOnce w.bits → get s key ≡ None
      → Updates s t key (Some (record { wish = w; next = None })) → slab_len t ≡ slab_len s + 1 → bs ≡ insert buckets k (record { fs = w.due.fs; first = key }) → Puts t bs held key w
  put_alone k held i p o g u n b =
      let Q : List QueuedWish → Type 0 = λ xs. Puts t bs xs key w in
      let R : List QueuedWish → Type 0 = λ xs. IsStored s buckets xs in
      subst Q (sym p.split) (at_alone k p.front p.back (subst R p.split i) p.place p.earlier p.later o g u n b)

  at_first : (k : ℕ) (d : Bucket) (front : List QueuedWish) (y : QueuedWish) (back : List QueuedWish) → IsStored s buckets (front ++ y ∷ back) → length (buckets_of front) ≡ k
      → AreEarlier w.due.fs front → time y ≡ w.due.fs → IsBeforeAll w (y ∷ back)
      → NamesOnce w.bits → get s key ≡ None → Updates s t key (Some (record { wish = w; next = Some y.key })) → slab_len t ≡ slab_len s + 1 → d.fs ≡ w.due.fs
      → bs ≡ set buckets k (record { fs = d.fs; first = key })
      → Puts t bs (front ++ y ∷ back) key w
  at_first k d front y back i p e q z o g u n f b =
      let free = free_key s (front ++ y ∷ back) key i.linked g in
      let from : w.due.fs ≤ time y = omega (arith, q) in
      let x : QueuedWish = record { key = key; wish = w } in
      let laid : bs ≡ buckets_of (front ++ x ∷ y ∷ back) =
      b ∙ ap (λ m. set buckets k (record { fs = m; first = key })) f
      ∙ ap (λ cs. set cs k (bucket x)) (i.buckets_are ∙ buckets_append w.due.fs front (y ∷ back) e from)
      ∙ ap (λ m. set (buckets_of front ++ buckets_of (y ∷ back)) m (bucket x)) (sym p)
      ∙ set_at (buckets_of front) (buckets_after (time y) back) (bucket y) (bucket x)
      ∙ ap (λ cs. buckets_of front ++ bucket x ∷ cs) (skip (time y) w.due.fs q)
      ∙ sym (buckets_append w.due.fs front (x ∷ y ∷ back) e (omega arith)) in (
        free,
        put_between s t buckets bs front x (y ∷ back) i free
            (linked_between s t w.due.fs front x (y ∷ back) i.linked (agrees_but s t key (front ++ y ∷ back) u.others free)
            (u.changed ∙ ap (λ m. Some (record { wish = w; next = m })) (sym (on (time y) w.due.fs q))) e refl from)
            (vacant_still s t buckets front x (y ∷ back) i u.others) laid (before_earlier front w e) z o n,
      )
    where
      on : (a b : ℕ) → a ≡ b → (if nat_eq a b then Some y.key else None) ≡ Some y.key
      on a b e = rw (eq-eqb a b e) refl

      skip : (a b : ℕ) → a ≡ b → buckets_after a back ≡ (if nat_eq a b then buckets_after b back else bucket y ∷ buckets_after a back)
      skip a b e = rw (eq-eqb a b e) (ap (λ m. buckets_after m back) e)

  -- the bucket of this number is of the wish's time, and begins with the wish that comes next
  pub bucket_first : (k : ℕ) (held : List QueuedWish) (d : Bucket) → IsStored s buckets held → (p : IsFirstInBucket held w k) → d ≡ get_or buckets k d → d ≡ bucket p.next
  bucket_first k held d i p e =
      let from : w.due.fs ≤ time p.next = omega (arith, p.same) in
      e ∙ ap (λ cs. get_or cs k d) (i.buckets_are ∙ ap buckets_of p.split ∙ buckets_append w.due.fs p.front (p.next ∷ p.back) p.earlier from)
      ∙ ap (λ m. get_or (buckets_of p.front ++ buckets_of (p.next ∷ p.back)) m d) (sym p.place)
      ∙ get_at (buckets_of p.front) (buckets_after (time p.next) p.back) (bucket p.next) d

  pub bucket_there : (k : ℕ) (held : List QueuedWish) → IsStored s buckets held → IsFirstInBucket held w k → k < length buckets
  bucket_there k held i p =
      let from : w.due.fs ≤ time p.next = omega (arith, p.same) in
      let laid : buckets ≡ buckets_of p.front ++ buckets_of (p.next ∷ p.back) = i.buckets_are ∙ ap buckets_of p.split ∙ buckets_append w.due.fs p.front (p.next ∷ p.back) p.earlier from in
      omega (arith, ap length laid, length-append (buckets_of p.front) (buckets_of (p.next ∷ p.back)), p.place)

  pub place_within : (k : ℕ) (held : List QueuedWish) → IsStored s buckets held → GoesAlone held w k → k ≤ length buckets
  place_within k held i p =
      let laid : buckets ≡ buckets_of p.front ++ buckets_of p.back = i.buckets_are ∙ ap buckets_of p.split ∙ buckets_append w.due.fs p.front p.back p.earlier (starts_later w.due.fs p.back p.later) in
      omega (arith, ap length laid, length-append (buckets_of p.front) (buckets_of p.back), p.place)

  pub put_first : (k : ℕ) (held : List QueuedWish) (d e : Bucket) → IsStored s buckets held → IsFirstInBucket held w k → NamesOnce w.bits → get s key ≡ None
      → d ≡ get_or buckets k d → e ≡ get_or buckets k e
      → Updates s t key (Some (record { wish = w; next = Some d.first })) → slab_len t ≡ slab_len s + 1 → bs ≡ set buckets k (record { fs = e.fs; first = key }) → Puts t bs held key w
  put_first k held d e i p o g d_is e_is u n b =
      let Q : List QueuedWish → Type 0 = λ xs. Puts t bs xs key w in
      let R : List QueuedWish → Type 0 = λ xs. IsStored s buckets xs in
      let S : ℕ → Type 0 = λ m. Updates s t key (Some (record { wish = w; next = Some m })) in
      let first : d.first ≡ p.next.key = ap (λ (c : Bucket). c.first) (bucket_first k held d i p d_is) in
      let fs : e.fs ≡ w.due.fs = ap (λ (c : Bucket). c.fs) (bucket_first k held e i p e_is) ∙ p.same in
      subst Q (sym p.split) (at_first k e p.front p.next p.back (subst R p.split i) p.place p.earlier p.same p.before o g (subst S first u) n fs b)

  at_after : (r : Slab Linked) (front : List QueuedWish) (y : QueuedWish) (back : List QueuedWish) → IsStored s buckets (front ++ y ∷ back) → time y ≡ w.due.fs → AllBefore (front ++ y ∷ []) w
      → IsBeforeAll w back
      → NamesOnce w.bits → get s key ≡ None → Updates s r key (Some (record { wish = w; next = link y back })) → slab_len r ≡ slab_len s + 1
      → Updates r t y.key (Some (record { wish = y.wish; next = Some key })) → slab_len t ≡ slab_len r → bs ≡ buckets
      → Puts t bs (front ++ y ∷ back) key w
  at_after r front y back i q a z o g u n v m b =
      let free = free_key s (front ++ y ∷ back) key i.linked g in
      let lacks = others_lack front y back i.keys in
      let apart = (none_back key front (y ∷ back) free).0 in
      let x : QueuedWish = record { key = key; wish = w } in
      let both : (j : ℕ) → j ≢ key → j ≢ y.key → get t j ≡ get s j = λ j d e. v.others j e ∙ u.others j d in
      let joined : (zs : List QueuedWish) → (front ++ y ∷ []) ++ zs ≡ front ++ y ∷ zs = λ zs. append_assoc front (y ∷ []) zs in
      let linked : AreLinked t (front ++ y ∷ x ∷ back) = linked_behind s t front y x back i.linked v.changed (v.others key (λ e. apart (sym e)) ∙ u.changed) (sym q)
      (agrees_two s t key y.key front both (none_front key front (y ∷ back) free) lacks.0) (agrees_two s t key y.key back both (none_back key front (y ∷ back) free).1 lacks.1) in
      let R : List QueuedWish → Type 0 = λ xs. IsStored s buckets xs in
      let N : List QueuedWish → Type 0 = λ xs. NoneHas key xs in
      let L : List QueuedWish → Type 0 = λ xs. AreLinked t xs in
      let Q : List QueuedWish → Type 0 = λ xs. Puts t bs xs key w in
      let still : (k : ℕ) → NoneHas k ((front ++ y ∷ []) ++ x ∷ back) → get t k ≡ None = λ k h.
      let p = none_inserted k (front ++ y ∷ []) x back h in
      let K : List QueuedWish → Type 0 = λ xs. NoneHas k xs in
      let lack = subst K (joined back) p.1 in
      both k (λ e. p.0 (sym e)) (λ e. (none_back k front (y ∷ back) lack).0 (sym e)) ∙ i.vacant k lack in
      subst Q (joined back) (
        subst N (sym (joined back)) free,
        put_between s t buckets bs (front ++ y ∷ []) x back (subst R (sym (joined back)) i) (subst N (sym (joined back)) free)
            (subst L (sym (joined (x ∷ back))) linked) still (b ∙ i.buckets_are ∙ sym (buckets_behind front y x back (sym q)) ∙ ap buckets_of (sym (joined (x ∷ back)))) a z o (m ∙ n),
      )

pub count_set : (xs : List (Option Linked)) (k : ℕ) (l : Linked) → IsSome (get_or xs k None) → count_by is_some (set xs k (Some l)) ≡ count_by is_some xs
count_set [] k l h = cc
count_set (None ∷ xs) zero l h = cc
count_set (Some m ∷ xs) zero l h = omega (arith, sum_by-cons (λ (o : Option Linked). cond (is_some o) 1 0) (Some m) xs, sum_by-cons (λ (o : Option Linked). cond (is_some o) 1 0) (Some l) xs)
count_set (o ∷ xs) (suc k) l h = omega (
  arith,
  count_set xs k l h,
  sum_by-cons (λ (o : Option Linked). cond (is_some o) 1 0) o xs,
  sum_by-cons (λ (o : Option Linked). cond (is_some o) 1 0) o (set xs k (Some l)),
)

-- the slab after the wish is put in, and after its key is noted at the one before it
pub put_after : (s r : Slab Linked) (buckets bs : List Bucket) (w : Wish) (key k : ℕ) (held : List QueuedWish) (l d : Linked) → IsStored s buckets held → GoesAfter held w k → NamesOnce w.bits
    → get s key ≡ None
    → get s k ≡ Some l → Updates s r key (Some (record { wish = w; next = l.next })) → slab_len r ≡ slab_len s + 1 → get r k ≡ Some d → bs ≡ buckets
    → Puts (with_value r k (record { wish = d.wish; next = Some key })) bs held key w
put_after s r buckets bs w key k held l d i p o g l_is u n d_is b =
    let R : List QueuedWish → Type 0 = λ xs. IsStored s buckets xs in
    let j = subst R p.split i in
    let free = free_key s (p.front ++ p.near ∷ p.back) key j.linked g in
    let apart : p.near.key ≢ key = (none_back key p.front (p.near ∷ p.back) free).0 in
    let here : get s k ≡ Some (record { wish = p.near.wish; next = link p.near p.back }) = ap (get s) (sym p.key) ∙ (linked_back s p.front (p.near ∷ p.back) j.linked).0 in
    let l_same : l ≡ record { wish = p.near.wish; next = link p.near p.back } = some_same _ _ (sym l_is ∙ here) in
    let d_same : d ≡ record { wish = p.near.wish; next = link p.near p.back } = some_same _ _ (sym d_is ∙ u.others k (λ e. apart (p.key ∙ e)) ∙ here) in
    let value : Linked = record { wish = d.wish; next = Some key } in
    let wish : d.wish ≡ p.near.wish = ap (λ (m : Linked). m.wish) d_same in
    let present : IsSome (get r k) = ap is_some d_is in
    let U : Wish → Type 0 = λ v. Updates r (with_value r k value) k (Some (record { wish = v; next = Some key })) in
    let V : ℕ → Type 0 = λ m. Updates r (with_value r k value) m (Some (record { wish = p.near.wish; next = Some key })) in
    let W : Option ℕ → Type 0 = λ m. Updates s r key (Some (record { wish = w; next = m })) in
    let Q : List QueuedWish → Type 0 = λ xs. Puts (with_value r k value) bs xs key w in
    subst Q (sym p.split) (at_after s (with_value r k value) buckets bs w key r p.front p.near p.back j p.same p.after p.before o g
    (subst W (ap (λ (m : Linked). m.next) l_same) u) n (subst V (sym p.key) (subst U wish (Updates-with_value r k value present))) (count_set r.slots k value present) b)
  where
    some_same : (m n : Linked) → Some m ≡ Some n → m ≡ n
    some_same m n z = cc

pub near_there : (s : Slab Linked) (buckets : List Bucket) (w : Wish) (k : ℕ) (held : List QueuedWish) → IsStored s buckets held → GoesAfter held w k → IsSome (get s k)
near_there s buckets w k held i p =
    let R : List QueuedWish → Type 0 = λ xs. IsStored s buckets xs in
    let j = subst R p.split i in
    ap (λ m. is_some (get s m)) (sym p.key) ∙ ap is_some (linked_back s p.front (p.near ∷ p.back) j.linked).0

-- one place less is left
pub spare_put : (a b s x y t : ℕ) → x ≡ a → y ≡ b + 1 → s ≤ t + 1 → min (a - b) s ≤ min (x - y) t + 1
spare_put a b s x y t p q h = omega arith
