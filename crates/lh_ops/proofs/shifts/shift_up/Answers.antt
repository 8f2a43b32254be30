use Rattle.std.proofs.Common.{arith}
use Rattle.lh_ops.proofs.ShiftLemmas.{shifted_up}
use Rattle.lh_ops.proofs.shifts.shift_up.Goals as goal

pub returns : goal.returns
returns c = shifted_up c.args.width c.args.base c.args.filler c.args.by c.cut.result (omega arith) c.requires.fits.1 c.requires.by c.cut.ensures
