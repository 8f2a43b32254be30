use Rattle.lh_lower_def.proofs.LoopRows.{loop-shape, loop-lowers, long-loop-stays}
use Rattle.lh_lower_def.proofs.laws.loop_law.Goals as goal

pub returns : goal.returns
returns c = record { shape = loop-shape; lowers = loop-lowers; long = long-loop-stays }
