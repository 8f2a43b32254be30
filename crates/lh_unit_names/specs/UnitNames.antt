-- Names of units.
use Rattle.std.specs.Prelude.{Bool, ◌&&◌, ◌==◌, nat_eq, codes}
use Rattle.std.specs.Ordering.{on, eq_of_both}
use lib.Pointwise.{pointwise}
use Rattle.lh_unit_names.specs.Names.{same_name}
use Rattle.lh_unit_names.specs.declared.name.UnitName.{UnitName}

-- when two are one
abbrev pub same_unit_name : UnitName → UnitName → Bool
same_unit_name = eq_of_both (on (λ n. n.sigil) ◌==◌) (on (λ n. n.name) (pointwise ◌==◌))

-- `@llhd.assert`
abbrev pub is_assert : UnitName → Bool
is_assert n = nat_eq n.sigil 64 && same_name n.name (codes "llhd.assert")
