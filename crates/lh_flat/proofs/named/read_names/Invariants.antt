use Rattle.std.proofs.Common.{ℕ, ◌<◌}
use Rattle.lh_flat.specs.Marks.{UnitIsNamed}
use Rattle.lh_flat.proofs.named.read_names.Given as goal

abbrev pub invariant-loop-unit : goal.invariant-loop-unit
invariant-loop-unit l = (u : ℕ) → u < l.unit → UnitIsNamed l.m u
