use Rattle.std.proofs.Common.{◌≤◌}
use Rattle.lh_types.proofs.Rows.{SumAt}
use Rattle.lh_types.proofs.ty.have_too_many_bits.Given as goal

abbrev pub invariant-loop-field : goal.invariant-loop-field
invariant-loop-field l = SumAt l.fn.fields l.fields l.field-index l.sum × (l.sum ≤ 65536)
