-- Parts of a unit's arguments.
use Rattle.std.specs.Prelude.{ℕ}
use Rattle.lh_types.specs.Types.{TypeTree, int_type, time_type, void_type, array_type, tuple_type, signal_type, pointer_type}
use Rattle.lh_term.specs.declared.part.Part.{Part}

-- the whole of argument i, which is of this type
abbrev pub whole_argument : (i : ℕ) → TypeTree → Part
whole_argument i t = record { arg = i; lo = 0; ty = t }

-- the width of an integer type, the length of an array type
abbrev pub extent_of : TypeTree → ℕ
extent_of (int_type n) = n
extent_of time_type = 0
extent_of void_type = 0
extent_of (array_type n t) = n
extent_of (tuple_type r) = 0
extent_of (signal_type t) = 0
extent_of (pointer_type t) = 0
