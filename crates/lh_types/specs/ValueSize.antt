-- The parts of a value weigh less than the value.
use Rattle.std.specs.Prelude.{◌≤◌, max, List, [], ◌∷◌, map}
use Rattle.std.proofs.Common.{arith}
use denote.Param.Weighed.{most}
use Rattle.lh_types.specs.Values.{datum_count, datum_count_row, data_row}
use Rattle.lh_types.specs.ValueOf.{datum_of}
use Rattle.lh_types.specs.declared.val.Val.{Val}
use Rattle.lh_types.specs.declared.val.Val.TheVariants.{Int, Time, Array, Tuple}
use Rattle.lh_types.specs.declared.val.ValList.TheDeep.{deep-Val}

pub deep_le-node_count : (v : Val) → deep-Val v ≤ datum_count (datum_of v)
deep_le-node_count (Int w b) = omega arith
deep_le-node_count (Time d) = omega arith
deep_le-node_count (Array vs) = omega arith
deep_le-node_count (Tuple vs) = omega arith

pub most_le-node_count : (vs : List Val) → max (most deep-Val vs) 0 ≤ datum_count_row (data_row (map datum_of vs))
most_le-node_count [] = omega arith
most_le-node_count (v ∷ vs) = omega (arith, most_le-node_count vs, deep_le-node_count v)
