use Rattle.std.proofs.Common.{refl}
use Rattle.lh_kernel.proofs.NotedInstances.{known_next, note_signal, note_wake, noted_some, on_err}
use Rattle.lh_kernel.proofs.noted.Noted.note.Goals as goal

pub enter-requires : goal.enter-requires
enter-requires c = known_next c.as_slice-signal-items.result.now c.args.signals.now _ _ c.loop-signal.signal-index
    c.as_slice-signal-items.ensures.same c.requires.known c.loop-signal.invariant.long c.loop-signal-test.true

pub returns-in_err-enter-clause-err : goal.returns-in_err-enter-clause-err
returns-in_err-enter-clause-err c =
    on_err c.from_residual.result
    (noted_some c.args.instance c.as_slice-signal-items.result.now c.loop-signal.signal-index c.args.self.now c.loop-signal.self c.args.signals.now
    c.args.wake c.as_slice-signal-items.ensures.same c.enter.new.self c.loop-signal.self.wakes c.loop-signal.invariant c.in_err-enter.ensures.err
    refl)

pub loop-signal-preserved : goal.loop-signal-preserved
loop-signal-preserved c =
    note_signal c.args.instance c.as_slice-signal-items.result.now c.loop-signal.signal-index c.args.self.now c.loop-signal.self _ c.enter.new.self
    c.loop-signal-test.true refl c.loop-signal.invariant c.in_ok-enter.ensures.has c.in_ok-enter.ensures.len

pub returns-in_err-enter-2-clause-err : goal.returns-in_err-enter-2-clause-err
returns-in_err-enter-2-clause-err c =
    on_err c.from_residual-in_err-enter-2.result
    (noted_some c.args.instance c.as_slice-signal-items.result.now c.loop-signal.signal-index c.args.self.now c.loop-signal.self c.args.signals.now
    c.args.wake c.as_slice-signal-items.ensures.same c.loop-signal.self.index c.enter-in-Some.new.self c.loop-signal.invariant refl
    c.in_err-enter-2.ensures.err)

pub returns-in_ok-enter-2-clause-noted : goal.returns-in_ok-enter-2-clause-noted
returns-in_ok-enter-2-clause-noted c =
    note_wake c.args.instance c.as_slice-signal-items.result.now c.loop-signal.signal-index c.args.self.now c.loop-signal.self c.args.signals.now
    c.args.wake c.as_slice-signal-items.ensures.same c.in-Some.at c.enter-in-Some.new.self
    c.loop-signal-test.false c.in-Some.is c.loop-signal.invariant c.in_ok-enter-2.ensures.notes
