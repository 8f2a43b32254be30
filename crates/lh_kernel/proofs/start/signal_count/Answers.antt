use Rattle.std.proofs.Common.{arith, length, ap}
use Rattle.lh_kernel_changes.proofs.Filled.{many_le}
use Rattle.lh_kernel.proofs.start.signal_count.Goals as goal

pub overflow_cast-result : goal.overflow_cast-result
overflow_cast-result c = omega (arith, many_le 0 (length c.args.d.now.init) c.args.d.now.signals.items c.requires, ap length c.signals.ensures, c.len.ensures, ap length c.init.ensures)
