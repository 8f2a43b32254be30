-- Tests of one type, and the type that it is made for.
use Rattle.std.specs.Prelude.{Bool, true, false, ◌||◌, Option, Some, None}
use Rattle.std.specs.Option.{is_some}
use Rattle.lh_types.specs.Types.{TypeTree, int_type, void_type, array_type, signal_type, pointer_type, same_type}
use Rattle.lh_types.specs.Faults.{is_data, is_time}

-- the type of a truth value
abbrev pub bit : TypeTree
bit = int_type 1

-- nothing
abbrev pub is_void : TypeTree → Bool
is_void t = same_type t void_type

-- an integer of any width
abbrev pub is_integer : TypeTree → Bool
is_integer (int_type n) = true
is_integer _ = false

-- an array whose elements have this type
abbrev pub is_array_of : TypeTree → TypeTree → Bool
is_array_of t (array_type n s) = same_type s t
is_array_of t _ = false

-- whether it is a data type or time
abbrev pub is_value_type : TypeTree → Bool
is_value_type t = is_data t || is_time t

-- what a pointer points to
abbrev pub pointed : TypeTree → Option TypeTree
pointed (pointer_type t) = Some t
pointed _ = None

-- what a signal carries
abbrev pub carried : TypeTree → Option TypeTree
carried (signal_type t) = Some t
carried _ = None

-- a pointer
abbrev pub is_pointer : TypeTree → Bool
is_pointer t = is_some (pointed t)

-- a signal
abbrev pub is_signal : TypeTree → Bool
is_signal t = is_some (carried t)
