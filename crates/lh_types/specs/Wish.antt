-- What an activation wishes: at which instant which bit of the signals becomes which.
use Rattle.std.specs.Prelude.{◌≡◌, ℕ, ◌+◌, List, [], ◌∷◌, Bool, Option, Some, None, ◌++◌, map}
use Rattle.std.specs.declared.cmp.Ordering.{Ordering}
use Rattle.std.specs.declared.cmp.Ordering.TheVariants.{Less}
use Rattle.std.specs.Ordering.{nat_cmp, ordering_then}
use Rattle.std.specs.BTreeMap.{insert_entry}
use Rattle.lh_time.specs.declared.Instant.{Instant}
use Rattle.lh_time.specs.Order.{instant_cmp}

-- a bit of the signals at an instant
pub record DueBit : Type 0 where
  pub due : Instant
  pub bit : ℕ

-- by instant, then by bit
abbrev pub due_bit_cmp : DueBit → DueBit → Ordering
due_bit_cmp a b = ordering_then (instant_cmp a.due b.due) (nat_cmp a.bit b.bit)

-- the bit of the signals at an instant
abbrev pub due_bit : Instant → ℕ → DueBit
due_bit t i = record { due = t; bit = i }

-- a map from these to bits, as the list of its entries in order
abbrev pub Wish : Type 0
Wish = List (DueBit × Bool)

-- an entry's place is below that of each of these
abbrev pub IsBelow : DueBit → Wish → Type 0
IsBelow k [] = Unit {0}
IsBelow k (e ∷ more) = (due_bit_cmp k e.0 ≡ Less) × IsBelow k more

-- the entries stand in strictly rising order
abbrev pub IsInOrder : Wish → Type 0
IsInOrder [] = Unit {0}
IsInOrder (e ∷ more) = IsBelow e.0 more × IsInOrder more

-- nothing is wished
abbrev pub no_wish : Wish
no_wish = []

-- one more bit; it replaces one that was wished before for this instant
abbrev pub with_bit : Wish → Instant → ℕ → Bool → Wish
with_bit w due bit b = insert_entry due_bit_cmp w (record { due = due; bit = bit }) b

-- bits in a row, from a lowest one on
abbrev pub with_bits : Wish → Instant → ℕ → List Bool → Wish
with_bits w due lo [] = w
with_bits w due lo (b ∷ bs) = with_bits (with_bit w due lo b) due (lo + 1) bs

-- a drive; where it has no due instant it adds nothing
abbrev pub with_drive : Wish → Option Instant → ℕ → List Bool → Wish
with_drive w None lo bs = w
with_drive w (Some due) lo bs = with_bits w due lo bs

-- bits that are written at one instant, as entries of a wish
abbrev pub bits_due : Instant → List (ℕ × Bool) → Wish
bits_due t ws = map (λ (w : ℕ × Bool). (due_bit t w.0, w.1)) ws

-- the entries of writes by instants, one after the other
abbrev pub writes_wish : List (Instant × List (ℕ × Bool)) → Wish
writes_wish [] = []
writes_wish (d ∷ more) = bits_due d.0 d.1 ++ writes_wish more
