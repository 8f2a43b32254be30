-- The parts of a type weigh less than the type.
use Rattle.std.specs.Prelude.{◌+◌, ◌≤◌, max, List, [], ◌∷◌}
use Rattle.std.proofs.Common.{arith}
use denote.Param.Weighed.{most}
use Rattle.lh_types.specs.Types.{TypeTree, node_count, node_count_row, row_of}
use Rattle.lh_types.specs.TypeOf.{type_of_node}
use Rattle.lh_types.specs.declared.ty.TypeNode.{TypeNode}
use Rattle.lh_types.specs.declared.ty.TypeNode.TheVariants.{Int, Time, Void, Array, Single, Pair, Tuple, Signal, Pointer}
use Rattle.lh_types.specs.declared.ty.Ty.TheDeep.{deep-TypeNode}

pub most_le-node_count : (ts : List TypeTree) → max (most (λ t. node_count t + 1) ts) 0 ≤ node_count_row (row_of ts)
most_le-node_count [] = omega arith
most_le-node_count (t ∷ ts) = omega (arith, most_le-node_count ts)

pub deep_le-node_count : (n : TypeNode) → max (deep-TypeNode n) 0 ≤ node_count (type_of_node n)
deep_le-node_count (Int n) = omega arith
deep_le-node_count Time = omega arith
deep_le-node_count Void = omega arith
deep_le-node_count (Array n t) = omega arith
deep_le-node_count (Single t) = omega arith
deep_le-node_count (Pair ts) = let h : max (max (most (λ t. node_count t + 1) ts.value) 0) 0 ≤ node_count_row (row_of ts.value) + 1 = omega (arith, most_le-node_count ts.value) in h
deep_le-node_count (Tuple ts) = omega arith
deep_le-node_count (Signal t) = omega arith
deep_le-node_count (Pointer t) = omega arith
