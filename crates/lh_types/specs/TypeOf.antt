-- How contracts see the node of a type.
use Rattle.std.specs.Prelude.{[], ◌∷◌}
use Rattle.lh_types.specs.Types.{TypeTree, int_type, time_type, void_type, array_type, tuple_type, signal_type, pointer_type, row_of}
use Rattle.lh_types.specs.declared.ty.TypeNode.{TypeNode}
use Rattle.lh_types.specs.declared.ty.TypeNode.TheVariants.{Int, Time, Void, Array, Single, Pair, Tuple, Signal, Pointer}

-- the type, by its node
abbrev pub type_of_node : TypeNode → TypeTree
type_of_node (Int n) = int_type n
type_of_node Time = time_type
type_of_node Void = void_type
type_of_node (Array n t) = array_type n t.value
type_of_node (Single t) = tuple_type (row_of (t.value ∷ []))
type_of_node (Pair ts) = tuple_type (row_of ts.value)
type_of_node (Tuple ts) = tuple_type (row_of ts.value)
type_of_node (Signal t) = signal_type t.value
type_of_node (Pointer t) = pointer_type t.value
