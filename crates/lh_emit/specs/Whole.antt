-- Whole arguments as parts.
use Rattle.std.specs.Prelude.{Bool, ◌&&◌, nat_eq}
use Rattle.lh_types.specs.Types.{TypeTree, signal_type, same_type}
use Rattle.lh_term.specs.declared.part.Part.{Part}

-- the part is the whole of its argument, which has this type
abbrev pub is_whole : Part → TypeTree → Bool
is_whole p t = nat_eq p.lo 0 && same_type t (signal_type p.ty)
