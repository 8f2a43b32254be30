-- The type of a part.
use Rattle.std.specs.Prelude.{Bool, false, Option}
use Rattle.std.specs.Option.{option_map_or}
use Rattle.lh_types.specs.Types.{TypeTree, same_type}
use Rattle.lh_types.specs.Parts.{Part}

-- there is such a part, and it has this type
abbrev pub is_part : Option Part → TypeTree → Bool
is_part p t = option_map_or (λ (q : Part). same_type t q.of) p false
