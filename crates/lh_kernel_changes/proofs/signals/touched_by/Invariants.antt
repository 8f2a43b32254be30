use Rattle.std.proofs.Common.{[], take}
use Rattle.lh_unit.specs.World.{bit_numbers}
use Rattle.lh_kernel_changes.specs.Touched.{TouchesMore}
use Rattle.lh_kernel_changes.proofs.signals.touched_by.Given as goal

abbrev pub invariant-loop-part : goal.invariant-loop-part
invariant-loop-part l = TouchesMore l.design.signals.items (bit_numbers (take l.part-index l.parts)) [] l.touched
