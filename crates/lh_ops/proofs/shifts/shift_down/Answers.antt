use Rattle.std.proofs.Common.{arith}
use Rattle.lh_ops.proofs.ShiftLemmas.{shifted_down}
use Rattle.lh_ops.proofs.shifts.shift_down.Goals as goal

pub returns : goal.returns
returns c = shifted_down c.args.width c.args.base c.args.filler c.args.by c.cut.result (omega arith) c.requires.fits.0 c.requires.by c.cut.ensures
