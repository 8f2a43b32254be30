use Rattle.std.proofs.Common.{◌≡◌, ℕ, ◌<◌, get_or}
use Rattle.lh_unit.specs.Arena.{no_unit_name}
use Rattle.lh_unit.proofs.module.Module.find.Given as goal

-- no unit before has this name
abbrev pub invariant-loop-i : goal.invariant-loop-i
invariant-loop-i l = (k : ℕ) → k < l.i → get_or l.names k no_unit_name ≡ record { sigil = l.sigil; name = l.name } → ⊥
