use Rattle.lh_kernel_changes.proofs.Same.{DifferFrom}
use Rattle.lh_kernel_changes.proofs.differ.differs.Given as goal

abbrev pub invariant-loop-part : goal.invariant-loop-part
invariant-loop-part l = DifferFrom l.parts l.part-index l.old l.now
