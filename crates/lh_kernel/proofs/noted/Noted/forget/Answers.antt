use Rattle.std.proofs.Common.{refl}
use Rattle.lh_kernel.proofs.NotedInstances.{known_next, forget_signal, forget_wake}
use Rattle.lh_kernel.proofs.noted.Noted.forget.Goals as goal

pub leave-requires : goal.leave-requires
leave-requires c = known_next c.as_slice-signal-items.result.now c.args.signals.now _ _ c.loop-signal.signal-index
    c.as_slice-signal-items.ensures.same c.requires.known c.loop-signal.invariant.long c.loop-signal-test.true

pub loop-signal-preserved : goal.loop-signal-preserved
loop-signal-preserved c =
    forget_signal c.args.instance c.as_slice-signal-items.result.now c.loop-signal.signal-index c.args.self.now c.loop-signal.self _ c.leave.new.self
    c.loop-signal-test.true refl c.loop-signal.invariant c.leave.ensures.has c.leave.ensures.len

pub returns-in-Some : goal.returns-in-Some
returns-in-Some c =
    forget_wake c.args.instance c.as_slice-signal-items.result.now c.loop-signal.signal-index c.args.self.now c.loop-signal.self c.args.signals.now
    c.args.wake c.as_slice-signal-items.ensures.same c.in-Some.at c.leave-in-Some.new.self
    c.loop-signal-test.false c.in-Some.is c.loop-signal.invariant c.leave-in-Some.ensures
