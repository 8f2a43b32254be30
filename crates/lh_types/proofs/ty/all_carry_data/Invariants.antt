use Rattle.lh_types.proofs.Rows.{DataAt}
use Rattle.lh_types.proofs.ty.all_carry_data.Given as goal

abbrev pub invariant-loop-field : goal.invariant-loop-field
invariant-loop-field l = DataAt l.fn.fields l.fields l.field-index
