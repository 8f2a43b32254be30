use Rattle.lh_types.proofs.PartLemmas.{FieldAt}
use Rattle.lh_types.proofs.part.field.Given as goal

abbrev pub invariant-loop-i : goal.invariant-loop-i
invariant-loop-i l = FieldAt l.fn.fields l.fields l.k l.i l.lo
