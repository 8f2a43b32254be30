use Rattle.std.proofs.Common.{◌≡◌, length}
use Rattle.lh_read_phrases.specs.Operations.{fields_of}
use Rattle.lh_read_phrases.proofs.Fields.{in_front}
use Rattle.lh_read_phrases.proofs.brackets.fields.Given as goal

abbrev pub invariant-loop-operands : goal.invariant-loop-operands
invariant-loop-operands l = in_front l.fields (fields_of l.operands) ≡ fields_of l.initial.operands

abbrev pub decreases-loop-operands : goal.decreases-loop-operands
decreases-loop-operands l = length l.operands
