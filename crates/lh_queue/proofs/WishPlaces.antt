-- The place of a wish among those that are held.
use Rattle.std.proofs.Common.{◌≡◌, ◌≢◌, ◌≤◌, ◌<◌, ⊎_elim, ℕ, zero, suc, List, [], ◌∷◌, ◌++◌, length, Bool, true, false, if◌then◌else◌, nat_eq, nat_lt, ◌&&◌, Option, Some, None, IsSome, is_some, slice_get, get_or, refl, ap, sym, ◌∙◌, subst, arith}
use Rattle.std.specs.Option.{option_map_or}
use Rattle.std.specs.List.Sorted.{IsPartitionedBy}
use Rattle.std.proofs.lemmas.Bool.{eqb-true, eq-eqb, ne_eqb, eqb-false, lt-ltb, le-ltb, ltb-true, cases_lt, and_parts}
use Rattle.std.proofs.lemmas.List.{append_assoc}
use Rattle.lh_queue.specs.declared.queue.Bucket.{Bucket}
use Rattle.lh_queue.specs.declared.wish.Wish.{Wish}
use Rattle.lh_queue.specs.Queued.{QueuedWish, is_before, IsBeforeAll, AreInOrder, NoneHas, KeysDiffer, NoneCompetes, wish_at}
use Rattle.lh_queue.specs.Buckets.{time, link, next_in, bucket, buckets_after, buckets_of, BucketsAreLater, TimesRise}
use Rattle.lh_queue.specs.Places.{AreEarlier, AreLater, AllBefore, earlier, first_of, comes_before, if_before, next_before, is_near, behind, GoesAlone, IsFirstInBucket, GoesAfter, StandsBeforeInBucket}
use Rattle.lh_queue.proofs.Order.{before_trans, before_not, before_or, before_all, others_lack, order_back, competes_back}
use Rattle.lh_queue.proofs.BucketChains.{StartsFrom, buckets_append, fs_first, before_earlier}

-- each is due at a time or later
abbrev pub EachFrom : ℕ → List QueuedWish → Type 0
EachFrom f [] = Unit {0}
EachFrom f (x ∷ more) = (f ≤ time x) × EachFrom f more

each_weaker : (f g : ℕ) (xs : List QueuedWish) → f ≤ g → EachFrom g xs → EachFrom f xs
each_weaker f g [] h e = tt
each_weaker f g (x ∷ more) h e = (omega (arith, e.0), each_weaker f g more h e.1)

-- what comes before is due no later
pub fs_upto : (a b : Wish) → is_before a b ≡ true → a.due.fs ≤ b.due.fs
fs_upto a b h = ⊎_elim (λ l. absurd (clash (sym (fs_first b a l) ∙ before_not a b h))) (λ l. l) (cases_lt b.due.fs a.due.fs)
  where
    clash : true ≡ false → ⊥
    clash z = cc

pub each_from : (w : Wish) (xs : List QueuedWish) → IsBeforeAll w xs → EachFrom w.due.fs xs
each_from w [] h = tt
each_from w (x ∷ more) h = (fs_upto w x.wish h.0, each_from w more h.1)

above_weaker : (f g : ℕ) (bs : List Bucket) → f ≤ g → BucketsAreLater g bs → BucketsAreLater f bs
above_weaker f g [] h e = tt
above_weaker f g (b ∷ more) h e = (omega (arith, e.0), above_weaker f g more h e.1)

-- the times of buckets rise
after_rise : (g : ℕ) (xs : List QueuedWish) → EachFrom g xs → AreInOrder xs → BucketsAreLater g (buckets_after g xs) × TimesRise (buckets_after g xs)
after_rise g [] e o = (tt, tt)
after_rise g (x ∷ more) e o = at (nat_eq (time x) g) refl (after_rise g more e.1 o.1) (after_rise (time x) more (each_from x.wish more o.0) o.1)
  where
    at : (b : Bool) → nat_eq (time x) g ≡ b → BucketsAreLater g (buckets_after g more) × TimesRise (buckets_after g more) → BucketsAreLater (time x) (buckets_after (time x) more)
        × TimesRise (buckets_after (time x) more)
        → BucketsAreLater g (if b then buckets_after g more else bucket x ∷ buckets_after (time x) more) × TimesRise (if b then buckets_after g more else bucket x ∷ buckets_after (time x) more)
    at true q ih jh = ih
    at false q ih jh =
        let n : time x ≢ g = eqb-false (time x) g q in
        let h : g ≤ time x = e.0 in
        ((omega arith, above_weaker g (time x) (buckets_after (time x) more) h jh.0), jh)

pub buckets_rise : (held : List QueuedWish) → AreInOrder held → TimesRise (buckets_of held)
buckets_rise [] o = tt
buckets_rise (x ∷ more) o = after_rise (time x) more (each_from x.wish more o.0) o.1

-- a search for the first that is not of an earlier time
rises_at : (f : ℕ) (bs : List Bucket) (j : ℕ) (d : Bucket) → BucketsAreLater f bs → j < length bs → f < (get_or bs j d).fs
rises_at f [] j d a h = absurd (omega arith)
rises_at f (b ∷ more) zero d a h = a.0
rises_at f (b ∷ more) (suc j) d a h = rises_at f more j d a.1 (omega arith)

rises_between : (bs : List Bucket) (i j : ℕ) (d : Bucket) → TimesRise bs → i ≤ j → j < length bs → (get_or bs i d).fs ≤ (get_or bs j d).fs
rises_between [] i j d r h l = absurd (omega arith)
rises_between (b ∷ more) zero zero d r h l = omega arith
rises_between (b ∷ more) zero (suc j) d r h l = let p = rises_at b.fs more j d r.0 (omega arith) in omega (arith, p)
rises_between (b ∷ more) (suc i) zero d r h l = absurd (omega arith)
rises_between (b ∷ more) (suc i) (suc j) d r h l = rises_between more i j d r.1 (omega arith) (omega arith)

pub parted : (fs : ℕ) (bs : List Bucket) → TimesRise bs → IsPartitionedBy (λ (b : Bucket). nat_lt b.fs fs) bs
parted fs bs r i j d h l p = let q = rises_between bs i j d r h l in let e = ltb-true _ _ p in lt-ltb _ _ (omega (arith, q, e))

pub earlier_at : (fs : ℕ) (bs : List Bucket) (i : ℕ) → i ≤ length bs → ((k : ℕ) (d : Bucket) → k < i → nat_lt (get_or bs k d).fs fs ≡ true)
    → ((k : ℕ) (d : Bucket) → i ≤ k → k < length bs → nat_lt (get_or bs k d).fs fs ≡ false)
    → i ≡ earlier fs bs
earlier_at fs [] i h t f = omega arith
earlier_at fs (b ∷ more) zero h t f = rw (f 0 b (omega arith) (omega arith)) refl
earlier_at fs (b ∷ more) (suc i) h t f =
    rw (t 0 b (omega arith)) (ap (λ n. suc n) (earlier_at fs more i (omega arith) (λ k d l. t (suc k) d (omega arith)) (λ k d l m. f (suc k) d (omega arith) (omega arith))))

-- those of earlier times, and the others
pub record Split (fs : ℕ) (held : List QueuedWish) : Type 0 where
  pub front : List QueuedWish
  pub back : List QueuedWish
  pub split : held ≡ front ++ back
  pub earlier_are : AreEarlier fs front
  pub from : EachFrom fs back

pub split_at : (fs : ℕ) (held : List QueuedWish) → AreInOrder held → Split fs held
split_at fs [] o = record { front = []; back = []; split = refl; earlier_are = tt; from = tt }
split_at fs (x ∷ more) o = ⊎_elim
    (λ l. let s = split_at fs more o.1 in record { front = x ∷ s.front; back = s.back; split = ap (λ xs. x ∷ xs) s.split; earlier_are = (l, s.earlier_are); from = s.from })
    (λ l. record { front = []; back = x ∷ more; split = refl; earlier_are = tt; from = (l, each_weaker fs (time x) more l (each_from x.wish more o.0)) })
    (cases_lt (time x) fs)

starts : (fs : ℕ) (back : List QueuedWish) → EachFrom fs back → StartsFrom fs back
starts fs [] e = tt
starts fs (x ∷ more) e = e.0

AllEarlier : ℕ → List Bucket → Type 0
AllEarlier fs [] = Unit {0}
AllEarlier fs (b ∷ more) = (b.fs < fs) × AllEarlier fs more

after_earlier : (fs g : ℕ) (xs : List QueuedWish) → AreEarlier fs xs → AllEarlier fs (buckets_after g xs)
unfolding AllEarlier
after_earlier fs g [] e = tt
after_earlier fs g (x ∷ more) e = at (nat_eq (time x) g) (after_earlier fs g more e.1) (after_earlier fs (time x) more e.1)
  where
    at : (b : Bool) → AllEarlier fs (buckets_after g more) → AllEarlier fs (buckets_after (time x) more) → AllEarlier fs (if b then buckets_after g more else bucket x ∷ buckets_after (time x) more)
    at true ih jh = ih
    at false ih jh = (e.0, jh)

all_earlier : (fs : ℕ) (xs : List QueuedWish) → AreEarlier fs xs → AllEarlier fs (buckets_of xs)
unfolding AllEarlier
all_earlier fs [] e = tt
all_earlier fs (x ∷ more) e = (e.0, after_earlier fs (time x) more e.1)

earlier_past : (fs : ℕ) (bs cs : List Bucket) → AllEarlier fs bs → earlier fs cs ≡ 0 → earlier fs (bs ++ cs) ≡ length bs
unfolding AllEarlier
earlier_past fs [] cs a z = z
earlier_past fs (b ∷ more) cs a z = rw (lt-ltb b.fs fs a.0) (ap (λ n. suc n) (earlier_past fs more cs a.1 z))

earlier_none : (fs : ℕ) (back : List QueuedWish) → EachFrom fs back → earlier fs (buckets_of back) ≡ 0
earlier_none fs [] e = refl
earlier_none fs (x ∷ more) e = rw (le-ltb (time x) fs e.0) refl

-- the others begin at the bucket that was found
pub split_place : (fs : ℕ) (held : List QueuedWish) (s : Split fs held) → length (buckets_of s.front) ≡ earlier fs (buckets_of held)
split_place fs held s = sym (ap (λ xs. earlier fs (buckets_of xs)) s.split ∙ ap (earlier fs) (buckets_append fs s.front s.back s.earlier_are (starts fs s.back s.from))
    ∙ earlier_past fs (buckets_of s.front) (buckets_of s.back) (all_earlier fs s.front s.earlier_are) (earlier_none fs s.back s.from))

got_at : (a b : List Bucket) → slice_get (a ++ b) (length a) ≡ slice_get b 0
got_at [] b = refl
got_at (x ∷ xs) b = got_at xs b

pub split_first : (fs : ℕ) (held : List QueuedWish) (s : Split fs held) (k : ℕ) → k ≡ earlier fs (buckets_of held) → slice_get (buckets_of held) k ≡ slice_get (buckets_of s.back) 0
split_first fs held s k e =
    ap (slice_get (buckets_of held)) (e ∙ sym (split_place fs held s))
    ∙ ap (λ xs. slice_get (buckets_of xs) (length (buckets_of s.front))) s.split
    ∙ ap (λ bs. slice_get bs (length (buckets_of s.front))) (buckets_append fs s.front s.back s.earlier_are (starts fs s.back s.from))
    ∙ got_at (buckets_of s.front) (buckets_of s.back)

all_later : (fs : ℕ) (xs : List QueuedWish) (g : ℕ) → fs < g → EachFrom g xs → AreLater fs xs
all_later fs [] g h e = tt
all_later fs (x ∷ more) g h e = (omega (arith, e.0), all_later fs more g h e.1)

later_back : (fs : ℕ) (back : List QueuedWish) → EachFrom fs back → AreInOrder back → first_of (slice_get (buckets_of back) 0) fs ≡ None → AreLater fs back
later_back fs [] e o n = tt
later_back fs (x ∷ more) e o n = at (nat_eq (time x) fs) refl n
  where
    clash : Some x.key ≡ None → ⊥
    clash z = cc

    at : (b : Bool) → nat_eq (time x) fs ≡ b → (if b then Some x.key else None) ≡ None → AreLater fs (x ∷ more)
    at true q z = absurd (clash z)
    at false q z =
        let d : time x ≢ fs = eqb-false (time x) fs q in
        let h : fs ≤ time x = e.0 in
        let l : fs < time x = omega arith in
        (l, all_later fs more (time x) l (each_from x.wish more o.0))

pub goes_alone : (held : List QueuedWish) (w : Wish) (k : ℕ) → AreInOrder held → k ≡ earlier w.due.fs (buckets_of held) → first_of (slice_get (buckets_of held) k) w.due.fs ≡ None → GoesAlone held w k
goes_alone held w k o e n =
    let s = split_at w.due.fs held o in
    let O : List QueuedWish → Type 0 = AreInOrder in
    record {
      front = s.front;
      back = s.back;
      split = s.split;
      place = split_place w.due.fs held s ∙ sym e;
      earlier = s.earlier_are;
      later = later_back w.due.fs s.back s.from (order_back s.front s.back (subst O s.split o)) (ap (λ b. first_of b w.due.fs) (sym (split_first w.due.fs held s k e)) ∙ n);
    }

-- the bucket that was found begins with this wish
pub record Starts (fs first : ℕ) (held : List QueuedWish) (k : ℕ) : Type 0 where
  pub front : List QueuedWish
  pub next : QueuedWish
  pub back : List QueuedWish
  pub split : held ≡ front ++ next ∷ back
  pub place : length (buckets_of front) ≡ k
  pub earlier_are : AreEarlier fs front
  pub same : time next ≡ fs
  pub key : next.key ≡ first

started : (fs first : ℕ) (held : List QueuedWish) (k : ℕ) (front back : List QueuedWish) → held ≡ front ++ back → length (buckets_of front) ≡ k → AreEarlier fs front
    → first_of (slice_get (buckets_of back) 0) fs ≡ Some first → Starts fs first held k
started fs first held k front [] s p e n = absurd (clash n)
  where
    clash : None ≡ Some first → ⊥
    clash z = cc
started fs first held k front (x ∷ more) s p e n = at (nat_eq (time x) fs) refl n
  where
    clash : None ≡ Some first → ⊥
    clash z = cc

    same : Some x.key ≡ Some first → x.key ≡ first
    same z = cc

    at : (b : Bool) → nat_eq (time x) fs ≡ b → (if b then Some x.key else None) ≡ Some first → Starts fs first held k
    at true q z = record { front = front; next = x; back = more; split = s; place = p; earlier_are = e; same = eqb-true (time x) fs q; key = same z }
    at false q z = absurd (clash z)

pub starts_at_first : (fs first : ℕ) (held : List QueuedWish) (k : ℕ) → AreInOrder held → k ≡ earlier fs (buckets_of held) → first_of (slice_get (buckets_of held) k) fs ≡ Some first
    → Starts fs first held k
starts_at_first fs first held k o e n =
    let s = split_at fs held o in
    started fs first held k s.front s.back s.split (split_place fs held s ∙ sym e) s.earlier_are (ap (λ b. first_of b fs) (sym (split_first fs held s k e)) ∙ n)

-- what is found by a key
pub wish_mid : (front : List QueuedWish) (y : QueuedWish) (back : List QueuedWish) → NoneHas y.key front → wish_at (front ++ y ∷ back) y.key ≡ Some y.wish
wish_mid [] y back n = rw (eq-eqb y.key y.key refl) refl
wish_mid (z ∷ zs) y back n = rw (ne_eqb z.key y.key n.0) (wish_mid zs y back n.1)

pub next_mid : (front : List QueuedWish) (y : QueuedWish) (back : List QueuedWish) → NoneHas y.key front → next_in (front ++ y ∷ back) y.key ≡ link y back
next_mid [] y back n = rw (eq-eqb y.key y.key refl) refl
next_mid (z ∷ zs) y back n = rw (ne_eqb z.key y.key n.0) (next_mid zs y back n.1)

pub behind_mid : (front : List QueuedWish) (y : QueuedWish) (back : List QueuedWish) → NoneHas y.key front → behind (front ++ y ∷ back) y.key ≡ back
behind_mid [] y back n = rw (eq-eqb y.key y.key refl) refl
behind_mid (z ∷ zs) y back n = rw (ne_eqb z.key y.key n.0) (behind_mid zs y back n.1)

pub all_before_append : (front : List QueuedWish) (y : QueuedWish) (w : Wish) → AllBefore front w → is_before y.wish w ≡ true → AllBefore (front ++ y ∷ []) w
all_before_append [] y w a b = (b, tt)
all_before_append (z ∷ zs) y w a b = (a.0, all_before_append zs y w a.1 b)

module _ (held : List QueuedWish) (w : Wish) (o : AreInOrder held) (u : KeysDiffer held) (n : NoneCompetes w held) where
  before_mid : (front : List QueuedWish) (y : QueuedWish) (back : List QueuedWish) (k : ℕ) → held ≡ front ++ y ∷ back → y.key ≡ k → comes_before held k w ≡ is_before y.wish w
  before_mid front y back k s e =
      let K : List QueuedWish → Type 0 = KeysDiffer in
      let lacks = others_lack front y back (subst K s u) in
      ap (λ m. option_map_or (λ (x : Wish). is_before x w) m false) (ap (wish_at held) (sym e) ∙ ap (λ xs. wish_at xs y.key) s ∙ wish_mid front y back lacks.0)

  pub goes_first : (first k : ℕ) → Starts w.due.fs first held k → comes_before held first w ≡ false → IsFirstInBucket held w k
  goes_first first k s b =
      let O : List QueuedWish → Type 0 = AreInOrder in
      let N : List QueuedWish → Type 0 = NoneCompetes w in
      let order = order_back s.front (s.next ∷ s.back) (subst O s.split o) in
      let apart = competes_back w s.front (s.next ∷ s.back) (subst N s.split n) in
      let before : is_before w s.next.wish ≡ true = before_or w s.next.wish (sym (before_mid s.front s.next s.back first s.split s.key) ∙ b) apart.0 in
      record {
        front = s.front;
        next = s.next;
        back = s.back;
        split = s.split;
        place = s.place;
        earlier = s.earlier_are;
        same = s.same;
        before = (before, before_all w s.next.wish s.back before order.0);
      }

  pub is_behind : (first k : ℕ) → Starts w.due.fs first held k → comes_before held first w ≡ true → StandsBeforeInBucket held w first
  is_behind first k s b = record {
    front = s.front;
    near = s.next;
    back = s.back;
    split = s.split;
    key = s.key;
    same = s.same;
    after = all_before_append s.front s.next w (before_earlier s.front w s.earlier_are) (sym (before_mid s.front s.next s.back first s.split s.key) ∙ b);
  }

  pub next_of_behind : (k : ℕ) (p : StandsBeforeInBucket held w k) → next_in held k ≡ link p.near p.back
  next_of_behind k p =
      let K : List QueuedWish → Type 0 = KeysDiffer in
      let lacks = others_lack p.front p.near p.back (subst K p.split u) in
      ap (next_in held) (sym p.key) ∙ ap (λ xs. next_in xs p.near.key) p.split ∙ next_mid p.front p.near p.back lacks.0

  pub there : (k : ℕ) → StandsBeforeInBucket held w k → IsSome (wish_at held k)
  there k p =
      let K : List QueuedWish → Type 0 = KeysDiffer in
      let lacks = others_lack p.front p.near p.back (subst K p.split u) in
      ap is_some (ap (wish_at held) (sym p.key) ∙ ap (λ xs. wish_at xs p.near.key) p.split ∙ wish_mid p.front p.near p.back lacks.0)

  pub behind_of : (k : ℕ) (p : StandsBeforeInBucket held w k) → behind held k ≡ p.back
  behind_of k p =
      let K : List QueuedWish → Type 0 = KeysDiffer in
      let lacks = others_lack p.front p.near p.back (subst K p.split u) in
      ap (behind held) (sym p.key) ∙ ap (λ xs. behind xs p.near.key) p.split ∙ behind_mid p.front p.near p.back lacks.0

  -- one step further
  pub record Further (k next : ℕ) : Type 0 where
    pub to : StandsBeforeInBucket held w next
    pub less : suc (length (behind held next)) ≡ length (behind held k)

  further_at : (k next : ℕ) (p : StandsBeforeInBucket held w k) (back : List QueuedWish) → p.back ≡ back → if_before held w (link p.near back) ≡ Some next → Further k next
  further_at k next p [] e h = absurd (clash h)
    where
      clash : None ≡ Some next → ⊥
      clash z = cc
  further_at k next p (z ∷ zs) e h = at (nat_eq (time z) (time p.near)) refl h
    where
      clash : None ≡ Some next → ⊥
      clash y = cc

      same : Some z.key ≡ Some next → z.key ≡ next
      same y = cc

      split : held ≡ (p.front ++ p.near ∷ []) ++ z ∷ zs
      split = p.split ∙ ap (λ xs. p.front ++ p.near ∷ xs) e ∙ sym (append_assoc p.front (p.near ∷ []) (z ∷ zs))

      found : (b : Bool) → time z ≡ time p.near → comes_before held z.key w ≡ b → (if b then Some z.key else None) ≡ Some next → Further k next
      found true q c y =
          let to : StandsBeforeInBucket held w next = record {
            front = p.front ++ p.near ∷ [];
            near = z;
            back = zs;
            split = split;
            key = same y;
            same = q ∙ p.same;
            after = all_before_append (p.front ++ p.near ∷ []) z w p.after (sym (before_mid (p.front ++ p.near ∷ []) z zs z.key split refl) ∙ c);
          } in
          record { to = to; less = ap (λ xs. suc (length xs)) (behind_of next to) ∙ sym (ap length (behind_of k p ∙ e)) }
      found false q c y = absurd (clash y)

      at : (b : Bool) → nat_eq (time z) (time p.near) ≡ b → if_before held w (if b then Some z.key else None) ≡ Some next → Further k next
      at true q y = found (comes_before held z.key w) (eqb-true (time z) (time p.near) q) refl y
      at false q y = absurd (clash y)

  pub further : (k next : ℕ) (p : StandsBeforeInBucket held w k) → next_before held k w ≡ Some next → Further k next
  further k next p h = further_at k next p p.back refl (ap (if_before held w) (sym (next_of_behind k p)) ∙ h)

  last_at : (k : ℕ) (p : StandsBeforeInBucket held w k) (back : List QueuedWish) → p.back ≡ back → if_before held w (link p.near back) ≡ None → IsBeforeAll w back
  last_at k p [] e h = tt
  last_at k p (z ∷ zs) e h = at (nat_eq (time z) (time p.near)) refl h
    where
      clash : Some z.key ≡ None → ⊥
      clash y = cc

      O : List QueuedWish → Type 0
      O = AreInOrder

      N : List QueuedWish → Type 0
      N = NoneCompetes w

      split : held ≡ p.front ++ p.near ∷ z ∷ zs
      split = p.split ∙ ap (λ xs. p.front ++ p.near ∷ xs) e

      order : AreInOrder (p.near ∷ z ∷ zs)
      order = order_back p.front (p.near ∷ z ∷ zs) (subst AreInOrder split o)

      apart : NoneCompetes w (p.near ∷ z ∷ zs)
      apart = competes_back w p.front (p.near ∷ z ∷ zs) (subst (NoneCompetes w) split n)

      all : is_before w z.wish ≡ true → IsBeforeAll w (z ∷ zs)
      all b = (b, before_all w z.wish zs b order.1.0)

      joined : held ≡ (p.front ++ p.near ∷ []) ++ z ∷ zs
      joined = split ∙ sym (append_assoc p.front (p.near ∷ []) (z ∷ zs))

      found : (b : Bool) → comes_before held z.key w ≡ b → (if b then Some z.key else None) ≡ None → IsBeforeAll w (z ∷ zs)
      found true c y = absurd (clash y)
      found false c y = all (before_or w z.wish (sym (before_mid (p.front ++ p.near ∷ []) z zs z.key joined refl) ∙ c) apart.1.0)

      at : (b : Bool) → nat_eq (time z) (time p.near) ≡ b → if_before held w (if b then Some z.key else None) ≡ None → IsBeforeAll w (z ∷ zs)
      at true q y = found (comes_before held z.key w) refl y
      at false q y =
          let d : time z ≢ time p.near = eqb-false (time z) (time p.near) q in
          let h : time p.near ≤ time z = fs_upto p.near.wish z.wish order.0.0 in
          let l : w.due.fs < time z = omega (arith, p.same) in
          all (fs_first w z.wish l)

  pub goes_after : (k : ℕ) → StandsBeforeInBucket held w k → next_before held k w ≡ None → GoesAfter held w k
  goes_after k p h = record {
    front = p.front;
    near = p.near;
    back = p.back;
    split = p.split;
    key = p.key;
    same = p.same;
    after = p.after;
    before = last_at k p p.back refl (ap (if_before held w) (sym (next_of_behind k p)) ∙ h);
  }

-- the wish of a key stands somewhere
record Stands (held : List QueuedWish) (k : ℕ) (w : Wish) : Type 0 where
  front : List QueuedWish
  here : QueuedWish
  back : List QueuedWish
  split : held ≡ front ++ here ∷ back
  key : here.key ≡ k
  wish : here.wish ≡ w

stands : (held : List QueuedWish) (k : ℕ) (w : Wish) → wish_at held k ≡ Some w → Stands held k w
stands [] k w h = absurd (clash h)
  where
    clash : None ≡ Some w → ⊥
    clash z = cc
stands (x ∷ more) k w h = at (nat_eq x.key k) refl h (stands more k w)
  where
    same : (a b : Wish) → Some a ≡ Some b → a ≡ b
    same a b z = cc

    at : (b : Bool) → nat_eq x.key k ≡ b → (if b then Some x.wish else wish_at more k) ≡ Some w → (wish_at more k ≡ Some w → Stands more k w) → Stands (x ∷ more) k w
    at true e z ih = record { front = []; here = x; back = more; split = refl; key = eqb-true x.key k e; wish = same x.wish w z }
    at false e z ih = let p = ih z in record { front = x ∷ p.front; here = p.here; back = p.back; split = ap (λ xs. x ∷ xs) p.split; key = p.key; wish = p.wish }

all_before : (front : List QueuedWish) (y : QueuedWish) (back : List QueuedWish) (w : Wish) → AreInOrder (front ++ y ∷ back) → is_before y.wish w ≡ true → AllBefore front w
all_before [] y back w o b = tt
all_before (z ∷ zs) y back w o b = (before_trans z.wish y.wish w (before_one z.wish zs y back o.0) b, all_before zs y back w o.1 b)
  where
    before_one : (v : Wish) (zs : List QueuedWish) (y : QueuedWish) (back : List QueuedWish) → IsBeforeAll v (zs ++ y ∷ back) → is_before v y.wish ≡ true
    before_one v [] y back h = h.0
    before_one v (u ∷ us) y back h = before_one v us y back h.1

pub near_behind : (held : List QueuedWish) (w : Wish) (k : ℕ) → AreInOrder held → is_near held k w ≡ true → StandsBeforeInBucket held w k
near_behind held w k o h = at (wish_at held k) refl h
  where
    at : (r : Option Wish) → wish_at held k ≡ r → option_map_or (λ (x : Wish). nat_eq x.due.fs w.due.fs && is_before x w) r false ≡ true → StandsBeforeInBucket held w k
    at None e z = cc
    at (Some x) e z =
        let p = stands held k x e in
        let q : (nat_eq x.due.fs w.due.fs ≡ true) × (is_before x w ≡ true) = and_parts _ _ z in
        let b : is_before p.here.wish w ≡ true = ap (λ (v : Wish). is_before v w) p.wish ∙ q.1 in
        let P : List QueuedWish → Type 0 = AreInOrder in
        record {
          front = p.front;
          near = p.here;
          back = p.back;
          split = p.split;
          key = p.key;
          same = ap (λ (v : Wish). v.due.fs) p.wish ∙ eqb-true x.due.fs w.due.fs q.0;
          after = all_before_append p.front p.here w (all_before p.front p.here p.back w (subst P p.split o) b) b;
        }
