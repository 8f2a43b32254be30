-- A place of an instruction that the unit has.
use Rattle.std.specs.Prelude.{ℕ, ◌<◌}
use Rattle.lh_verify.specs.declared.spots.Spot.{Spot}

-- there are more than this many instructions
abbrev pub SpotWithin : ℕ → Spot → Type 0
SpotWithin n x = x.inst.0 < n
