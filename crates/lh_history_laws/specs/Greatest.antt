-- The greatest of the entries that are due on a bit.
use Rattle.std.specs.Prelude.{◌≡◌, ℕ, List, false, Option, Some, None}
use Rattle.std.specs.declared.cmp.Ordering.TheVariants.{Equal}
use Rattle.lh_time.specs.declared.Instant.{Instant}
use Rattle.lh_types.specs.History.{Claim, claim_cmp, is_due_by, greatest_from, IsAmong, IsGreatest}

-- it is the greatest entry that is due on the bit by t, or there is none and none is due
abbrev pub IsGreatestIfAny : (bit : ℕ) → Instant → List Claim → Option Claim → Type 0
IsGreatestIfAny bit t all None = (d : Claim) → IsAmong d all → is_due_by bit t d ≡ false
IsGreatestIfAny bit t all (Some c) = IsGreatest bit t all c

-- The computing form finds the greatest.
abbrev pub GreatestIsFound : Type 0
GreatestIsFound = (bit : ℕ) (t : Instant) (all : List Claim) → IsGreatestIfAny bit t all (greatest_from bit t None all)

-- Two greatest compare as equal.
abbrev pub GreatestAreLevel : Type 0
GreatestAreLevel = (bit : ℕ) (t : Instant) (all : List Claim) (c d : Claim) → IsGreatest bit t all c → IsGreatest bit t all d → claim_cmp c d ≡ Equal
