-- The types of fields, one after the other.
use Rattle.std.proofs.Common.{List, ◌++◌, Option, Some, None}
use Rattle.lh_types.specs.Types.{TypeTree}

-- the types so far in front of those that are found yet
abbrev pub in_front : List TypeTree → Option (List TypeTree) → Option (List TypeTree)
in_front xs None = None
in_front xs (Some ts) = Some (xs ++ ts)
