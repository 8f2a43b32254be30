-- When a delay from an instant is due.
use Rattle.std.specs.Prelude.{ℕ, ◌+◌, ◌^◌, nat_lt, if◌then◌else◌, Option, Some, None}
use Rattle.lh_time.specs.declared.Instant.{Instant}
use Rattle.lh_time.specs.declared.Delay.{Delay}

-- the instant of these femtoseconds, deltas and epsilons
abbrev pub instant : ℕ → ℕ → ℕ → Instant
instant fs delta eps = record { fs = fs; delta = delta; eps = eps }

-- the instant, where the sum that was taken for it fits 64 bits
abbrev pub if_fits : ℕ → Instant → Option Instant
if_fits sum t = if nat_lt sum (2 ^ 64) then Some t else None

-- the instant that a delay d from an instant t leads to; a delay of 0 is one delta
abbrev pub due_of : Instant → Delay → Option Instant
due_of t d =
    if nat_lt 0 d.fs then if_fits (t.fs + d.fs) (instant (t.fs + d.fs) d.delta d.eps)
    else (if nat_lt 0 d.delta then if_fits (t.delta + d.delta) (instant t.fs (t.delta + d.delta) d.eps)
    else (if nat_lt 0 d.eps then if_fits (t.eps + d.eps) (instant t.fs t.delta (t.eps + d.eps))
    else if_fits (t.delta + 1) (instant t.fs (t.delta + 1) 0)))
