use Rattle.std.proofs.Common.{arith}
use Rattle.lh_unit.proofs.Seen.{table-sound}
use Rattle.lh_unit.proofs.module.Module.labels.Goals as goal

pub overflow_cast-result : goal.overflow_cast-result
overflow_cast-result c = omega (arith, c.labels.ensures, (table-sound c.self.inside _ c.self.view_is _ c.requires _ c.index.ensures c.self.invariant).few_labels)
