use Rattle.std.proofs.Common.{◌≡◌, length}
use Rattle.lh_emit_source.specs.Firsts.{first_result}
use Rattle.lh_flat.specs.Below.{ValuesBelow}
use Rattle.lh_emit_source.proofs.origin.first_of.Given as goal

abbrev pub invariant-loop-left : goal.invariant-loop-left
invariant-loop-left l = record {
  within : ValuesBelow (length l.parts.parts.items) l.left;
  same : first_result l.parts.parts.items l.left l.part ≡ first_result l.parts.parts.items l.values l.part;
}

abbrev pub decreases-loop-left : goal.decreases-loop-left
decreases-loop-left l = length l.left
