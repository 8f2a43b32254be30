-- How contracts see the names of one kind in a unit.
use Rattle.std.specs.Prelude.{ℕ, List}
use Rattle.lh_unit_names.specs.declared.table.KeptNames.{KeptNames}
use Rattle.lh_unit_names.specs.declared.table.KeptNames.TheVariants.{Indexed, Listed}

-- the names, by their numbers
abbrev pub names_of : KeptNames → List (List ℕ)
names_of (Indexed names) = names.keys
names_of (Listed names) = names.items

-- whether there is an index
abbrev pub IsIndexed : KeptNames → Type 0
IsIndexed (Indexed names) = Unit {0}
IsIndexed (Listed names) = ⊥
