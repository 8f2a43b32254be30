-- The type that one level stands for.
use Rattle.lh_types.specs.Types.{TypeTree, int_type, time_type, void_type, array_type, tuple_type, signal_type, pointer_type, row_of}
use Rattle.lh_types.specs.declared.ty.TyKind.{TyKind}
use Rattle.lh_types.specs.declared.ty.TyKind.TheVariants.{Int, Time, Void, Array, Tuple, Signal, Pointer}

-- the type, by one level of it
abbrev pub type_of_kind : TyKind → TypeTree
type_of_kind (Int n) = int_type n
type_of_kind Time = time_type
type_of_kind Void = void_type
type_of_kind (Array n t) = array_type n t.now
type_of_kind (Tuple ts) = tuple_type (row_of ts.now)
type_of_kind (Signal t) = signal_type t.now
type_of_kind (Pointer t) = pointer_type t.now
