-- How a queue lays out what it holds. No public clause cites this module.
use Rattle.std.specs.Prelude.{ℕ, zero, suc, ◌-◌, min, List, [], ◌∷◌, ◌++◌, length, Option, Some, None, ◌≡◌, slice_index_or}
use Rattle.slab.specs.Slab.{Slab, get, slab_len}
use Rattle.lh_queue.specs.Queued.{QueuedWish, AreInOrder, NoneHas, KeysDiffer, EachNamesOnce}
use Rattle.lh_queue.specs.Buckets.{link, buckets_of}
use Rattle.lh_queue.specs.declared.queue.Bucket.{Bucket}
use Rattle.lh_queue.specs.declared.queue.Linked.{Linked}

-- a wish with the key of the next one, and what comes from that key on
abbrev pub linked_from : ℕ → Option Linked → (Option ℕ → List QueuedWish) → List QueuedWish
linked_from k None rest = []
linked_from k (Some l) rest = record { key = k; wish = l.wish } ∷ rest l.next

-- what comes from a key on, at most so many
abbrev pub chain : (slots : List (Option Linked)) → (most : ℕ) → Option ℕ → List QueuedWish
chain slots zero k = []
chain slots (suc n) None = []
chain slots (suc n) (Some k) = linked_from k (slice_index_or slots k None) (λ j. chain slots n j)

-- what comes from the first key of each bucket on
abbrev pub chains_from : List (Option Linked) → ℕ → List Bucket → List QueuedWish
chains_from slots n [] = []
chains_from slots n (b ∷ more) = chain slots n (Some b.first) ++ chains_from slots n more

-- the wishes that are held
unfoldable pub held_by : Slab Linked → List Bucket → List QueuedWish
held_by links buckets = chains_from links.slots (slab_len links) buckets

-- how many more fit, where so many more buckets do
abbrev pub spare_by : Slab Linked → ℕ → ℕ
spare_by links spare = min (links.capacity - slab_len links) spare

-- each stands under its key, with the key of the next of its bucket
abbrev pub AreLinked : Slab Linked → List QueuedWish → Type 0
AreLinked links [] = Unit {0}
AreLinked links (x ∷ more) = (get links x.key ≡ Some (record { wish = x.wish; next = link x more })) × AreLinked links more

-- these wishes are stored so
pub record IsStored (links : Slab Linked) (buckets : List Bucket) (held : List QueuedWish) : Type 0 where
  pub linked : AreLinked links held
  pub vacant : (k : ℕ) → NoneHas k held → get links k ≡ None
  pub counted : slab_len links ≡ length held
  pub buckets_are : buckets ≡ buckets_of held
  pub keys : KeysDiffer held
  pub order : AreInOrder held
  pub once : EachNamesOnce held

-- some wishes are stored so
abbrev pub StoresSome : Slab Linked → List Bucket → Type 0
StoresSome links buckets = (held : List QueuedWish) × IsStored links buckets held
