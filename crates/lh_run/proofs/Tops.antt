-- A unit that is not defined.
use Rattle.std.proofs.Common.{◌≡◌, Bool, true, Option, Some, None, refl}
use Rattle.std.specs.Prelude.{is_some, not}
use Rattle.lh_unit.specs.declared.inst.UnitKind.{UnitKind}

-- what is not there is none
pub is_missing : (k : Option UnitKind) (missing : Bool) → is_some k ≡ not missing → missing ≡ true → k ≡ None
is_missing None missing is true_too = refl
is_missing (Some k) missing is true_too = absurd cc
