-- All wishes ever made, and the bits that the signals have by them at an instant.
use Rattle.std.specs.Prelude.{ℕ, ◌+◌, List, [], ◌∷◌, ◌++◌, Bool, true, false, ◌&&◌, nat_eq, if◌then◌else◌, Option, Some, None, ◌≡◌, ◌⊎◌}
use Rattle.std.specs.declared.cmp.Ordering.{Ordering}
use Rattle.std.specs.Ordering.{nat_cmp, ordering_then, is_le, is_gt}
use Rattle.std.specs.Option.{option_map_or}
use Rattle.lh_time.specs.declared.Instant.{Instant}
use Rattle.lh_time.specs.Order.{instant_cmp, instant_lt, instant_le}
use Rattle.lh_types.specs.Wish.{Wish}

-- what one instance wished at one instant
pub record Made : Type 0 where
  pub made : Instant
  pub instance : ℕ
  pub wish : Wish

-- one entry of a wish, with its origin
pub record Claim : Type 0 where
  pub due : Instant
  pub made : Instant
  pub instance : ℕ
  pub bit : ℕ
  pub value : Bool

-- the entries of one wish
abbrev pub claims_of : Instant → ℕ → Wish → List Claim
claims_of made instance [] = []
claims_of made instance (e ∷ more) = record { due = e.0.due; made = made; instance = instance; bit = e.0.bit; value = e.1 } ∷ claims_of made instance more

-- the entries of bits that are due at one instant, with their origin
abbrev pub entries_of : (due made : Instant) → (instance : ℕ) → List (ℕ × Bool) → List Claim
entries_of due made instance [] = []
entries_of due made instance (e ∷ more) = record { due = due; made = made; instance = instance; bit = e.0; value = e.1 } ∷ entries_of due made instance more

-- a wish that is not empty is kept, with its origin
abbrev pub kept : (made : Instant) → (instance : ℕ) → Wish → List Made
kept made instance [] = []
kept made instance (e ∷ more) = record { made = made; instance = instance; wish = e ∷ more } ∷ []

-- the wishes that instances in a row make at one instant, from instance `i` on
abbrev pub made_from : Instant → (i : ℕ) → List Wish → List Made
made_from made i [] = []
made_from made i (w ∷ more) = kept made i w ++ made_from made (i + 1) more

-- the entries of all wishes of a history
abbrev pub claims : List Made → List Claim
claims [] = []
claims (m ∷ more) = claims_of m.made m.instance m.wish ++ claims more

-- the entry is about this bit, and due by this instant
abbrev pub is_due_by : ℕ → Instant → Claim → Bool
is_due_by bit t c = nat_eq c.bit bit && instant_le c.due t

-- by due instant, then by the instant at which it was made, then by instance
abbrev pub claim_cmp : Claim → Claim → Ordering
claim_cmp a b = ordering_then (instant_cmp a.due b.due) (ordering_then (instant_cmp a.made b.made) (nat_cmp a.instance b.instance))

-- it is one of these
abbrev pub IsAmong : Claim → List Claim → Type 0
IsAmong c [] = ⊥
IsAmong c (x ∷ more) = (x ≡ c) ⊎ IsAmong c more

-- of the entries that are due by t it is the greatest
pub record IsGreatest (bit : ℕ) (t : Instant) (all : List Claim) (c : Claim) : Type 0 where
  pub among : IsAmong c all
  pub is_due : is_due_by bit t c ≡ true
  pub greatest : (d : Claim) → IsAmong d all → is_due_by bit t d ≡ true → is_gt (claim_cmp d c) ≡ false

-- The value of a bit at t: that of the greatest entry that is due by then, or the initial bit where there is none.
abbrev pub HasValue : List Claim → (initial : Bool) → (bit : ℕ) → Instant → Bool → Type 0
HasValue all initial bit t v =
    ((c : Claim) × IsGreatest bit t all c × (v ≡ c.value)) ⊎ (((d : Claim) → IsAmong d all → is_due_by bit t d ≡ false) × (v ≡ initial))

-- the greater of two, the second where neither is greater
abbrev pub greater : Option Claim → Claim → Claim
greater None c = c
greater (Some b) c = if is_le (claim_cmp b c) then c else b

-- the same, computed: the greatest entry that is due by t, and of this one before
abbrev pub greatest_from : ℕ → Instant → Option Claim → List Claim → Option Claim
greatest_from bit t before [] = before
greatest_from bit t before (c ∷ more) = greatest_from bit t (if is_due_by bit t c then Some (greater before c) else before) more

-- the value of a bit at t, by the greatest entry
abbrev pub value_by : List Claim → (initial : Bool) → (bit : ℕ) → Instant → Bool
value_by all initial bit t = option_map_or (λ c. c.value) (greatest_from bit t None all) initial

-- the values of the bits from the k-th on
abbrev pub values_by : List Claim → Instant → ℕ → List Bool → List Bool
values_by all t k [] = []
values_by all t k (b ∷ more) = value_by all b k t ∷ values_by all t (k + 1) more

-- all bits at an instant, from the initial ones
unfoldable pub bits_at : List Made → (initial : List Bool) → Instant → List Bool
bits_at history initial t = values_by (claims history) t 0 initial

-- the bits at the last instant, before the first the initial ones
abbrev pub bits_after : List Made → (initial : List Bool) → (last : Option Instant) → List Bool
bits_after history initial None = initial
bits_after history initial (Some l) = bits_at history initial l

-- the sooner of two instants, of which either may be missing
abbrev pub sooner : Option Instant → Option Instant → Option Instant
sooner None b = b
sooner (Some a) None = Some a
sooner (Some a) (Some b) = Some (if instant_lt b a then b else a)

-- the instant, where it is later than t
abbrev pub if_later : Instant → Option Instant → Option Instant
if_later t None = None
if_later t (Some u) = if instant_lt t u then Some u else None

-- the soonest due instant after t
abbrev pub soonest_due : Instant → List Claim → Option Instant
soonest_due t [] = None
soonest_due t (c ∷ more) = sooner (if_later t (Some c.due)) (soonest_due t more)
