-- The buckets of held wishes: a bucket for each physical time, and in it the wishes due then, each leading to the next.
use Rattle.std.specs.Prelude.{ℕ, ◌<◌, List, [], ◌∷◌, nat_eq, if◌then◌else◌, Option, Some, None, ◌≡◌, ◌⊎◌, ◌↔◌}
use Rattle.lh_queue.specs.Queued.{QueuedWish}
use Rattle.lh_queue.specs.declared.queue.Bucket.{Bucket}

-- the physical time at which a held wish is due, in femtoseconds
abbrev pub time : QueuedWish → ℕ
time x = x.wish.due.fs

-- the key of the next wish of the same bucket, where these follow in order
abbrev pub link : QueuedWish → List QueuedWish → Option ℕ
link x [] = None
link x (y ∷ more) = if nat_eq (time y) (time x) then Some y.key else None

-- the key of the wish that follows the one of a key in its bucket
abbrev pub next_in : List QueuedWish → ℕ → Option ℕ
next_in [] k = None
next_in (x ∷ more) k = if nat_eq x.key k then link x more else next_in more k

-- the bucket that begins with a wish
abbrev pub bucket : QueuedWish → Bucket
bucket x = record { fs = time x; first = x.key }

-- the buckets of what follows a wish due at this time
abbrev pub buckets_after : ℕ → List QueuedWish → List Bucket
buckets_after fs [] = []
buckets_after fs (x ∷ more) = if nat_eq (time x) fs then buckets_after fs more else bucket x ∷ buckets_after (time x) more

-- the buckets of held wishes that stand in order
abbrev pub buckets_of : List QueuedWish → List Bucket
buckets_of [] = []
buckets_of (x ∷ more) = bucket x ∷ buckets_after (time x) more

-- those due at a physical time
abbrev pub due_within : ℕ → List QueuedWish → List QueuedWish
due_within fs [] = []
due_within fs (x ∷ more) = if nat_eq (time x) fs then x ∷ due_within fs more else due_within fs more

-- from a key on, each leading to the next, come exactly these
abbrev pub KeysLead : (all : List QueuedWish) → Option ℕ → List QueuedWish → Type 0
KeysLead all None [] = Unit {0}
KeysLead all None (x ∷ more) = ⊥
KeysLead all (Some k) [] = ⊥
KeysLead all (Some k) (x ∷ more) = (x.key ≡ k) × KeysLead all (next_in all k) more

-- all times are above this one
abbrev pub BucketsAreLater : ℕ → List Bucket → Type 0
BucketsAreLater fs [] = Unit {0}
BucketsAreLater fs (b ∷ more) = (fs < b.fs) × BucketsAreLater fs more

-- the times rise strictly
abbrev pub TimesRise : List Bucket → Type 0
TimesRise [] = Unit {0}
TimesRise (b ∷ more) = BucketsAreLater b.fs more × TimesRise more

-- a bucket is of this time
abbrev pub HasTime : ℕ → List Bucket → Type 0
HasTime fs [] = ⊥
HasTime fs (b ∷ more) = (b.fs ≡ fs) ⊎ HasTime fs more

-- a wish is due at this time
abbrev pub IsDueWithin : ℕ → List QueuedWish → Type 0
IsDueWithin fs [] = ⊥
IsDueWithin fs (x ∷ more) = (time x ≡ fs) ⊎ IsDueWithin fs more

-- from the first key of each bucket on come the wishes due at its time
abbrev pub EachLeads : List QueuedWish → List Bucket → Type 0
EachLeads all [] = Unit {0}
EachLeads all (b ∷ more) = KeysLead all (Some b.first) (due_within b.fs all) × EachLeads all more

-- The times rise strictly and are exactly those at which wishes are due; from the first key of each bucket on come the wishes due at its time, in their order.
pub record AreBuckets (held : List QueuedWish) (buckets : List Bucket) : Type 0 where
  pub rise : TimesRise buckets
  pub exact : (fs : ℕ) → HasTime fs buckets ↔ IsDueWithin fs held
  pub lead : EachLeads held buckets
