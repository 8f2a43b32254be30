-- Which fault a constructor of types answers.
use Rattle.std.specs.Prelude.{◌≡◌, ℕ, ◌+◌, ◌*◌, Bool, true, false, not, ◌&&◌, ◌||◌, nat_eq, nat_lt, if◌then◌else◌, Option, Some, None, Result, Ok, Err}
use Rattle.lh_types.specs.Types.{TypeTree, TypeRow, int_type, time_type, array_type, tuple_type, no_types, more_types, bit_count, depth_of, bit_count_row, depth_of_row}
use Rattle.lh_types.specs.declared.ty.TyFault.{TyFault}
use Rattle.lh_types.specs.declared.ty.TyFault.TheVariants.{WidthRange, TooManyBits, TooDeep, Empty, WrongPart, OutOfMemory}

-- whether it is of the kinds that carry data
abbrev pub is_data : TypeTree → Bool
is_data (int_type n) = true
is_data (array_type n t) = true
is_data (tuple_type ts) = true
is_data _ = false

-- whether it is the type of delays
abbrev pub is_time : TypeTree → Bool
is_time time_type = true
is_time _ = false

-- whether each is of the kinds that carry data
abbrev pub all_data : TypeRow → Bool
all_data no_types = true
all_data (more_types t ts) = is_data t && all_data ts

-- whether there is none
abbrev pub is_empty_row : TypeRow → Bool
is_empty_row no_types = true
is_empty_row _ = false

-- the fault of an integer type of this width
abbrev pub int_fault : ℕ → Option TyFault
int_fault n = if nat_eq n 0 || nat_lt 128 n then Some WidthRange else None

-- the first fault of an array of this many
abbrev pub array_fault : ℕ → TypeTree → Option TyFault
array_fault n t =
    if nat_eq n 0 then Some Empty
    else (if not (is_data t) then Some WrongPart
    else (if nat_lt 16 (depth_of t + 1) then Some TooDeep
    else (if nat_lt 65536 (n * bit_count t) then Some TooManyBits else None)))

-- the first fault of a struct of these fields
abbrev pub tuple_fault : TypeRow → Option TyFault
tuple_fault ts =
    if is_empty_row ts then Some Empty
    else (if not (all_data ts) then Some WrongPart
    else (if nat_lt 16 (depth_of_row ts + 1) then Some TooDeep
    else (if nat_lt 65536 (bit_count_row ts) then Some TooManyBits else None)))

-- the fault of a signal that carries this
abbrev pub signal_fault : TypeTree → Option TyFault
signal_fault t = if is_data t then None else Some WrongPart

-- the fault of a pointer to this
abbrev pub pointer_fault : TypeTree → Option TyFault
pointer_fault t = if is_data t || is_time t then None else Some WrongPart

-- the type where there is no fault, else the fault
abbrev pub made : Option TyFault → TypeTree → Result TypeTree TyFault
made None t = Ok t
made (Some e) t = Err e

-- the same, where memory may run out if there is no fault
abbrev pub MakesType : Result TypeTree TyFault → Option TyFault → TypeTree → Type 0
MakesType (Ok t) fault made = (fault ≡ None) × (t ≡ made)
MakesType (Err OutOfMemory) fault made = fault ≡ None
MakesType (Err e) fault made = fault ≡ Some e
