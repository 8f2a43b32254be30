-- What a queue holds: wishes in order, each under its key.
use Rattle.std.specs.Prelude.{ℕ, List, [], ◌∷◌, Bool, true, nat_eq, if◌then◌else◌, Option, Some, None, ◌≡◌, ◌≢◌, ◌⊎◌}
use Rattle.std.specs.declared.cmp.Ordering.{Ordering}
use Rattle.std.specs.declared.cmp.Ordering.TheVariants.{Equal}
use Rattle.std.specs.Ordering.{nat_cmp, ordering_then, is_lt}
use Rattle.lh_time.specs.declared.Instant.{Instant}
use Rattle.lh_time.specs.Order.{instant_cmp, instant_lt, instant_le}
use Rattle.lh_queue.specs.declared.wish.Wish.{Wish}
pub use Rattle.lh_bits.specs.Writes.{BitsWithin}

-- a wish that is held, and its key
pub record QueuedWish : Type 0 where
  pub key : ℕ
  pub wish : Wish

-- What contracts see of a queue: a map from keys to wishes, as the list of its entries in order of the wishes; and how many more wishes it takes without memory.
pub record Waiting : Type 0 where
  pub held : List QueuedWish
  pub spare : ℕ

-- by due instant, then by the instant at which it was made, then by instance
abbrev pub wish_cmp : Wish → Wish → Ordering
wish_cmp a b = ordering_then (instant_cmp a.due b.due) (ordering_then (instant_cmp a.made b.made) (nat_cmp a.instance b.instance))

-- the first of two wishes comes before the second
abbrev pub is_before : Wish → Wish → Bool
is_before a b = is_lt (wish_cmp a b)

-- a wish comes before each of these
abbrev pub IsBeforeAll : Wish → List QueuedWish → Type 0
IsBeforeAll w [] = Unit {0}
IsBeforeAll w (x ∷ more) = (is_before w x.wish ≡ true) × IsBeforeAll w more

-- they stand in order, and no two of them have the same due instant, made instant and instance
abbrev pub AreInOrder : List QueuedWish → Type 0
AreInOrder [] = Unit {0}
AreInOrder (x ∷ more) = IsBeforeAll x.wish more × AreInOrder more

-- none of these has the key
abbrev pub NoneHas : ℕ → List QueuedWish → Type 0
NoneHas k [] = Unit {0}
NoneHas k (x ∷ more) = (x.key ≢ k) × NoneHas k more

-- no two have the same key
abbrev pub KeysDiffer : List QueuedWish → Type 0
KeysDiffer [] = Unit {0}
KeysDiffer (x ∷ more) = NoneHas x.key more × KeysDiffer more

-- the wish under a key
abbrev pub wish_at : List QueuedWish → ℕ → Option Wish
wish_at [] k = None
wish_at (x ∷ more) k = if nat_eq x.key k then Some x.wish else wish_at more k

-- one more, at its place in the order
abbrev pub with_held : List QueuedWish → QueuedWish → List QueuedWish
with_held [] x = x ∷ []
with_held (y ∷ more) x = if is_before x.wish y.wish then x ∷ y ∷ more else y ∷ with_held more x

-- those due later than an instant
abbrev pub due_later : Instant → List QueuedWish → List QueuedWish
due_later t [] = []
due_later t (x ∷ more) = if instant_lt t x.wish.due then x ∷ due_later t more else due_later t more

-- none is due before an instant
abbrev pub NoneDueBefore : Instant → List QueuedWish → Type 0
NoneDueBefore t [] = Unit {0}
NoneDueBefore t (x ∷ more) = (instant_le t x.wish.due ≡ true) × NoneDueBefore t more

-- one is due at an instant
abbrev pub OneDueAt : Instant → List QueuedWish → Type 0
OneDueAt t [] = ⊥
OneDueAt t (x ∷ more) = (x.wish.due ≡ t) ⊎ OneDueAt t more

-- The least due instant of these, and none exactly where there are none.
abbrev pub IsLeastDue : List QueuedWish → Option Instant → Type 0
IsLeastDue held None = held ≡ []
IsLeastDue held (Some t) = OneDueAt t held × NoneDueBefore t held

-- none has the same due instant, made instant and instance as the wish
abbrev pub NoneCompetes : Wish → List QueuedWish → Type 0
NoneCompetes w [] = Unit {0}
NoneCompetes w (x ∷ more) = (wish_cmp w x.wish ≢ Equal) × NoneCompetes w more

-- a bit is not among those that are written
abbrev pub IsUnnamed : ℕ → List (ℕ × Bool) → Type 0
IsUnnamed bit [] = Unit {0}
IsUnnamed bit (e ∷ more) = (e.0 ≢ bit) × IsUnnamed bit more

-- each bit is named at most once
abbrev pub NamesOnce : List (ℕ × Bool) → Type 0
NamesOnce [] = Unit {0}
NamesOnce (e ∷ more) = IsUnnamed e.0 more × NamesOnce more

-- each held wish names each bit at most once
abbrev pub EachNamesOnce : List QueuedWish → Type 0
EachNamesOnce [] = Unit {0}
EachNamesOnce (x ∷ more) = NamesOnce x.wish.bits × EachNamesOnce more

-- each held wish names only bits below a number
abbrev pub EachWithin : ℕ → List QueuedWish → Type 0
EachWithin n [] = Unit {0}
EachWithin n (x ∷ more) = BitsWithin n x.wish.bits × EachWithin n more

-- each held wish names a bit
abbrev pub EachNames : List QueuedWish → Type 0
EachNames [] = Unit {0}
EachNames (x ∷ more) = (x.wish.bits ≢ []) × EachNames more
