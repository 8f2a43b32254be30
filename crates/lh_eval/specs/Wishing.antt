-- Wishes and writes that name only bits of the signals.
use Rattle.std.specs.Prelude.{ℕ, ◌<◌, List, Bool}
use Rattle.lh_types.specs.Wish.{DueBit, Wish}
use Rattle.lh_unit.specs.Within.{Each}

-- each entry is of a bit below this
abbrev pub WishWithin : (width : ℕ) → Wish → Type 0
WishWithin width wish = Each (λ (e : DueBit × Bool). e.0.bit < width) wish

-- each of these writes names a bit below this
abbrev pub BitsWithin : (width : ℕ) → List (ℕ × Bool) → Type 0
BitsWithin width ws = Each (λ (w : ℕ × Bool). w.0 < width) ws
