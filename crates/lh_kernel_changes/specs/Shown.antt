-- What a change shows.
use Rattle.std.specs.Prelude.{ℕ}
use Rattle.lh_types.specs.Values.{Datum}
use Rattle.lh_types.specs.Pictures.{Showing}

-- the signal of this number with its value, and how many of its bits toggled
abbrev pub shown : (signal toggled : ℕ) → Datum → Showing
shown k n v = record { signal = k; toggled = n; value = v }
