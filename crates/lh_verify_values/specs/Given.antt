-- The type of what an instruction gives.
use Rattle.lh_types.specs.Types.{TypeTree}
use Rattle.lh_verify_values.specs.declared.results.GivenType.{GivenType}
use Rattle.lh_verify_values.specs.declared.results.GivenType.TheVariants.{Held, Made}

-- the type, held or made
abbrev pub type_given : GivenType → TypeTree
type_given (Held t) = t.now
type_given (Made t) = t
