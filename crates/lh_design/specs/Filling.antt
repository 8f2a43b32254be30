-- Where the signals of a design lie.
use Rattle.std.specs.Prelude.{◌≡◌, ℕ, ◌+◌, List, [], ◌∷◌, length}
use Rattle.lh_types.specs.Types.{IsData, bit_count}
use Rattle.lh_design.specs.declared.Signal.{Signal}
use Rattle.lh_design.specs.declared.Design.{Design}

-- signals of data types stand one after the other, from one bit up to another
abbrev pub FillFrom : (lo : ℕ) → List Signal → (hi : ℕ) → Type 0
FillFrom lo [] hi = lo ≡ hi
FillFrom lo (s ∷ more) hi = (s.lo ≡ lo) × IsData s.ty × FillFrom (lo + bit_count s.ty) more hi

-- the signals fill the bits
abbrev pub SignalsFill : Design → Type 0
SignalsFill d = FillFrom 0 d.signals.items (length d.init)
