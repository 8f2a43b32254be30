use Rattle.std.proofs.Common.{take}
use Rattle.lh_bits.specs.Writes.{bits_of}
use Rattle.lh_kernel_changes.specs.Touched.{TouchesMore, bits_named}
use Rattle.lh_kernel_changes.proofs.signals.touch_written.Given as goal

abbrev pub invariant-loop-run : goal.invariant-loop-run
invariant-loop-run l = TouchesMore l.design.signals.items (bits_named (bits_of (take l.run-index l.run-items))) l.fn.touched l.touched
