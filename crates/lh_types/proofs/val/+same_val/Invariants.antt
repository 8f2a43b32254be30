use Rattle.std.proofs.Common.{map}
use Rattle.lh_types.specs.ValueOf.{datum_of}
use Rattle.lh_types.proofs.DatumRows.{SameFrom}
use Rattle.lh_types.proofs.val.+same_val.Given as goal

abbrev pub invariant-same_values-loop-i : goal.invariant-same_values-loop-i
invariant-same_values-loop-i l = SameFrom l.fn.vs l.fn.ws (map datum_of l.vs) (map datum_of l.ws) l.i
