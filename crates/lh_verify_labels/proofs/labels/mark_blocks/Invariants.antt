use Rattle.std.proofs.Common.{length, take}
use Rattle.lh_verify_labels.specs.Marking.{BlockMarks}
use Rattle.lh_verify_labels.proofs.labels.mark_blocks.Given as goal

abbrev pub invariant-loop-block : goal.invariant-loop-block
invariant-loop-block l = BlockMarks (take l.block-index l.blocks) (length l.initial.marks) l.marks
