-- The order of instants, and that of delays.
use Rattle.std.specs.Prelude.{◌≡◌, Bool, true, Option, Some, None}
use Rattle.std.specs.declared.cmp.Ordering.{Ordering}
use Rattle.std.specs.Ordering.{nat_cmp, ordering_then, is_lt, is_le, is_eq}
use Rattle.lh_time.specs.declared.Instant.{Instant}
use Rattle.lh_time.specs.declared.Delay.{Delay}

-- instants by femtoseconds, then by deltas, then by epsilons
abbrev pub instant_cmp : Instant → Instant → Ordering
instant_cmp a b = ordering_then (nat_cmp a.fs b.fs) (ordering_then (nat_cmp a.delta b.delta) (nat_cmp a.eps b.eps))

-- delays by femtoseconds, then by deltas, then by epsilons
abbrev pub delay_cmp : Delay → Delay → Ordering
delay_cmp a b = ordering_then (nat_cmp a.fs b.fs) (ordering_then (nat_cmp a.delta b.delta) (nat_cmp a.eps b.eps))

-- whether a is earlier than b
abbrev pub instant_lt : Instant → Instant → Bool
instant_lt a b = is_lt (instant_cmp a b)

-- whether a is no later than b
abbrev pub instant_le : Instant → Instant → Bool
instant_le a b = is_le (instant_cmp a b)

-- whether a and b are one instant
abbrev pub instant_eq : Instant → Instant → Bool
instant_eq a b = is_eq (instant_cmp a b)

-- the second instant, if there is one, is later than the first
abbrev pub IsLaterIfAny : Instant → Option Instant → Type 0
IsLaterIfAny t None = Unit {0}
IsLaterIfAny t (Some u) = instant_lt t u ≡ true
