use Rattle.std.proofs.Common.{take, None}
use Rattle.lh_kernel.specs.Noting.{HasForgotten}
use Rattle.lh_kernel.proofs.noted.Noted.forget.Given as goal

abbrev pub invariant-loop-signal : goal.invariant-loop-signal
invariant-loop-signal l = HasForgotten l.instance (take l.signal-index l.signal-items) None l.fn.self l.self
