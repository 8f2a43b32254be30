use Rattle.std.proofs.Common.{take, None}
use Rattle.lh_kernel.specs.Noting.{HasNoted}
use Rattle.lh_kernel.proofs.noted.Noted.note.Given as goal

abbrev pub invariant-loop-signal : goal.invariant-loop-signal
invariant-loop-signal l = HasNoted l.instance (take l.signal-index l.signal-items) None l.fn.self l.self
