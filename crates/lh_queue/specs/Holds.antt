-- Of which histories a queue holds what is still due, and what the bits are then.
use Rattle.std.specs.Prelude.{List, [], ◌∷◌, ◌++◌, Bool, true, Option, Some, None, ◌≡◌, ◌↔◌}
use Rattle.lh_time.specs.declared.Instant.{Instant}
use Rattle.lh_time.specs.Order.{instant_lt, instant_le}
use Rattle.lh_types.specs.History.{Made, Claim, claims, entries_of, IsAmong, bits_at, bits_after, soonest_due}
use Rattle.lh_queue.specs.declared.wish.Wish.{Wish}
use Rattle.lh_queue.specs.Queued.{QueuedWish, EachNames}

-- the entries of a wish
abbrev pub wish_entries : Wish → List Claim
wish_entries w = entries_of w.due w.made w.instance w.bits

-- the entries of all held wishes
abbrev pub entries : List QueuedWish → List Claim
entries [] = []
entries (x ∷ more) = wish_entries x.wish ++ entries more

-- later than the last instant at which wishes were taken; before the first such instant any instant is
abbrev pub IsAfter : (last : Option Instant) → Instant → Type 0
IsAfter None t = Unit {0}
IsAfter (Some l) t = instant_lt l t ≡ true

-- no earlier than the last instant at which wishes were taken
abbrev pub IsFrom : (last : Option Instant) → Instant → Type 0
IsFrom None t = Unit {0}
IsFrom (Some l) t = instant_le l t ≡ true

-- What is held stands for all that was ever wished: the entries of the held wishes are exactly those of `all` that are due after the instant `last`, at which wishes were
-- last taken; before the first taking, all of them.
pub record HoldsFor (held : List QueuedWish) (all : List Claim) (last : Option Instant) : Type 0 where
  pub due : (c : Claim) → IsAmong c (entries held) ↔ (IsAmong c all × IsAfter last c.due)

-- Of every history for which the wishes are held, with these bits at the last taking, the new bits are those at the instant.
abbrev pub AreBitsAt : List QueuedWish → (old : List Bool) → Instant → (new : List Bool) → Type 0
AreBitsAt held old t new =
    (history : List Made) (initial : List Bool) (last : Option Instant) →
    HoldsFor held (claims history) last → IsFrom last t → old ≡ bits_after history initial last →
    new ≡ bits_at history initial t

-- What was held for all of these since a last taking is, after a taking at `t`, held for all of these since `t`.
abbrev pub HoldsOn : (old : List QueuedWish) → Instant → (new : List QueuedWish) → Type 0
HoldsOn old t new = (all : List Claim) (last : Option Instant) → HoldsFor old all last → IsFrom last t → HoldsFor new all (Some t)

-- What was held for all of these is, with one wish more that is due after the last taking, held for these and its entries.
abbrev pub HoldsOneWishMore : (old : List QueuedWish) → Wish → (new : List QueuedWish) → Type 0
HoldsOneWishMore old w new = (all : List Claim) (last : Option Instant) → HoldsFor old all last → IsAfter last w.due → HoldsFor new (all ++ wish_entries w) last

-- Where each held wish names a bit, the instant is the soonest after the last taking at which anything ever wished is due.
abbrev pub IsSoonestDue : List QueuedWish → Option Instant → Type 0
IsSoonestDue held next = (all : List Claim) (last : Instant) → HoldsFor held all (Some last) → EachNames held → next ≡ soonest_due last all
