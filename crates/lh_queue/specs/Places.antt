-- Where a wish goes among those that are held.
use Rattle.std.specs.Prelude.{ℕ, ◌+◌, ◌<◌, ◌≤◌, List, [], ◌∷◌, ◌++◌, length, Bool, true, false, nat_lt, nat_eq, ◌&&◌, if◌then◌else◌, suc, Option, Some, None, ◌≡◌}
use Rattle.std.specs.Option.{option_map_or}
use Rattle.lh_time.specs.declared.Instant.{Instant}
use Rattle.lh_queue.specs.declared.wish.Wish.{Wish}
use Rattle.lh_queue.specs.Queued.{QueuedWish, Waiting, is_before, IsBeforeAll, NoneHas, wish_at, with_held}
use Rattle.lh_time.specs.Order.{instant_eq}
use Rattle.lh_queue.specs.Buckets.{time, buckets_of, next_in}
use Rattle.lh_queue.specs.declared.queue.Bucket.{Bucket}
use Rattle.lh_queue.specs.declared.queue.Insertion.{Insertion}
use Rattle.lh_queue.specs.declared.queue.Insertion.TheVariants.{Alone, First, After}

-- how many buckets at the front are of earlier times
abbrev pub earlier : ℕ → List Bucket → ℕ
earlier fs [] = 0
earlier fs (b ∷ more) = if nat_lt b.fs fs then suc (earlier fs more) else 0

-- each is due at an earlier time
abbrev pub AreEarlier : ℕ → List QueuedWish → Type 0
AreEarlier fs [] = Unit {0}
AreEarlier fs (x ∷ more) = (time x < fs) × AreEarlier fs more

-- each is due at a later time
abbrev pub AreLater : ℕ → List QueuedWish → Type 0
AreLater fs [] = Unit {0}
AreLater fs (x ∷ more) = (fs < time x) × AreLater fs more

-- each comes before the wish
abbrev pub AllBefore : List QueuedWish → Wish → Type 0
AllBefore [] w = Unit {0}
AllBefore (x ∷ more) w = (is_before x.wish w ≡ true) × AllBefore more w

-- alone, in a new bucket
pub record GoesAlone (held : List QueuedWish) (w : Wish) (k : ℕ) : Type 0 where
  pub front : List QueuedWish
  pub back : List QueuedWish
  pub split : held ≡ front ++ back
  pub place : length (buckets_of front) ≡ k
  pub earlier : AreEarlier w.due.fs front
  pub later : AreLater w.due.fs back

-- first in a bucket
pub record IsFirstInBucket (held : List QueuedWish) (w : Wish) (k : ℕ) : Type 0 where
  pub front : List QueuedWish
  pub next : QueuedWish
  pub back : List QueuedWish
  pub split : held ≡ front ++ next ∷ back
  pub place : length (buckets_of front) ≡ k
  pub earlier : AreEarlier w.due.fs front
  pub same : time next ≡ w.due.fs
  pub before : IsBeforeAll w (next ∷ back)

-- behind the wish of a key, in its bucket
pub record GoesAfter (held : List QueuedWish) (w : Wish) (k : ℕ) : Type 0 where
  pub front : List QueuedWish
  pub near : QueuedWish
  pub back : List QueuedWish
  pub split : held ≡ front ++ near ∷ back
  pub key : near.key ≡ k
  pub same : time near ≡ w.due.fs
  pub after : AllBefore (front ++ near ∷ []) w
  pub before : IsBeforeAll w back

-- a place for a wish
abbrev pub IsPlace : List QueuedWish → Wish → Insertion → Type 0
IsPlace held w (Alone k) = GoesAlone held w k
IsPlace held w (First k) = IsFirstInBucket held w k
IsPlace held w (After walk) = GoesAfter held w walk.to

-- the wish of a key is in the bucket of a wish, and comes before it
pub record StandsBeforeInBucket (held : List QueuedWish) (w : Wish) (k : ℕ) : Type 0 where
  pub front : List QueuedWish
  pub near : QueuedWish
  pub back : List QueuedWish
  pub split : held ≡ front ++ near ∷ back
  pub key : near.key ≡ k
  pub same : time near ≡ w.due.fs
  pub after : AllBefore (front ++ near ∷ []) w

-- the key of the first wish
abbrev pub first_key : List QueuedWish → Option ℕ
first_key [] = None
first_key (x ∷ more) = Some x.key

-- the first wish
abbrev pub first_wish : List QueuedWish → Option Wish
first_wish [] = None
first_wish (x ∷ more) = Some x.wish

-- whether the first wish is due at an instant
abbrev pub starts_at : Instant → List QueuedWish → Bool
starts_at t [] = false
starts_at t (x ∷ more) = instant_eq x.wish.due t

-- those from the wish of a key on
abbrev pub from_key : List QueuedWish → ℕ → List QueuedWish
from_key [] k = []
from_key (x ∷ more) k = if nat_eq x.key k then x ∷ more else from_key more k

-- the same, where there may be no key
abbrev pub rest_from : List QueuedWish → Option ℕ → List QueuedWish
rest_from held None = []
rest_from held (Some k) = from_key held k

-- the first key of a bucket that is of this time
abbrev pub first_of : Option Bucket → ℕ → Option ℕ
first_of None fs = None
first_of (Some b) fs = if nat_eq b.fs fs then Some b.first else None

-- whether the wish of a key comes before a wish
abbrev pub comes_before : List QueuedWish → ℕ → Wish → Bool
comes_before held k w = option_map_or (λ x. is_before x w) (wish_at held k) false

-- whether the wish of a key is due at the physical time of a wish, and comes before it
abbrev pub is_near : List QueuedWish → ℕ → Wish → Bool
is_near held k w = option_map_or (λ x. nat_eq x.due.fs w.due.fs && is_before x w) (wish_at held k) false

-- a key, where its wish comes before a wish
abbrev pub if_before : List QueuedWish → Wish → Option ℕ → Option ℕ
if_before held w None = None
if_before held w (Some k) = if comes_before held k w then Some k else None

-- the key of the next wish of the bucket, where it comes before a wish
abbrev pub next_before : List QueuedWish → ℕ → Wish → Option ℕ
next_before held k w = if_before held w (next_in held k)

-- a wish is put under a key that was free
pub record WishIsPut (old new : Waiting) (w : Wish) : Type 0 where
  pub key : ℕ
  pub free : NoneHas key old.held
  pub held : new.held ≡ with_held old.held (record { key = key; wish = w })
  pub spare : old.spare ≤ new.spare + 1

-- those behind the wish of a key
abbrev pub behind : List QueuedWish → ℕ → List QueuedWish
behind [] k = []
behind (x ∷ more) k = if nat_eq x.key k then more else behind more k
