use Rattle.std.proofs.Common.{◌≡◌, ◌∙◌, ◌<◌, length, ap, sym, subst, true}
use Rattle.lh_unit.specs.Activation.{control_at}
use Rattle.lh_unit.specs.Arena.{unit_count, label_count, blocks_at, value_count, unit_text_at}
use Rattle.lh_unit.specs.Table.{is_block}
use Rattle.lh_exec.specs.declared.machine.UnitFrame.{UnitFrame}
use Rattle.lh_exec.proofs.Begins.{process-blocks, waits-to, wait-control, wait-leads, from-goes, from-lost}
use Rattle.lh_exec.proofs.begin.begin_from.Goals as goal

pub enter-requires-clause-unit : goal.enter-requires-clause-unit
enter-requires-clause-unit c = subst (λ (f : UnitFrame). f.unit.0 < unit_count c.args.m.now) (sym c.machine_at-machine.ensures.frame) c.requires.unit

pub enter-requires-clause-to : goal.enter-requires-clause-to
enter-requires-clause-to c = subst (λ (f : UnitFrame). c.args.pause.now.to.0 < label_count c.args.m.now f.unit.0) (sym c.machine_at-machine.ensures.frame) c.requires.fits.to

pub enter-requires-clause-stands : goal.enter-requires-clause-stands
enter-requires-clause-stands c =
    subst (λ (f : UnitFrame). is_block (blocks_at c.args.m.now f.unit.0) c.args.pause.now.to.0 ≡ true) (sym c.machine_at-machine.ensures.frame)
    (waits-to c.args.m.now c.args.unit.0 c.requires.arena c.requires.unit (process-blocks c.args.m.now c.args.unit.0 c.requires.process) c.requires.formed (length c.args.now.now) c.args.pause.now
    c.requires.fits)

pub enter-requires-clause-slots : goal.enter-requires-clause-slots
enter-requires-clause-slots c =
    subst (λ (f : UnitFrame). length f.slots ≡ value_count c.args.m.now f.unit.0) (sym c.machine_at-machine.ensures.frame) (ap length c.in_ok-slots.ensures ∙ c.requires.fits.held.holds.long)

pub returns-in-Goes : goal.returns-in-Goes
returns-in-Goes c = λ p k.
    let m = c.args.m.now in
    let u = c.args.unit.0 in
    let b = process-blocks m u c.requires.process in
    from-goes m c.enter.new.self c.in_ok-enter.field-0 (unit_text_at m u) (wait-control m u c.requires.arena c.requires.unit b c.requires.formed (length c.args.now.now) c.args.pause.now p.held)
    (control_at (unit_text_at m u) p) c.in-Goes.is
    (wait-leads m u c.requires.arena c.requires.unit b c.requires.formed (length c.args.now.now) c.args.pause.now c.in_ok-slots.slots p c.machine_at-machine.result c.enter.new.self
    c.in_ok-enter.field-0 c.requires.fits c.in_ok-slots.ensures
    c.machine_at-machine.ensures.frame c.machine_at-machine.ensures.callers c.machine_at-machine.ensures.wishes c.machine_at-machine.ensures.outcomes k c.in_ok-enter.ensures)

pub returns-in_default : goal.returns-in_default
returns-in_default c = λ p k.
    let m = c.args.m.now in
    let u = c.args.unit.0 in
    let b = process-blocks m u c.requires.process in
    from-lost m c.enter.new.self c.in_ok-enter.field-0 (unit_text_at m u) (wait-control m u c.requires.arena c.requires.unit b c.requires.formed (length c.args.now.now) c.args.pause.now p.held)
    (control_at (unit_text_at m u) p) c.in_default.not-Goes
    (wait-leads m u c.requires.arena c.requires.unit b c.requires.formed (length c.args.now.now) c.args.pause.now c.in_ok-slots.slots p c.machine_at-machine.result c.enter.new.self
    c.in_ok-enter.field-0 c.requires.fits c.in_ok-slots.ensures
    c.machine_at-machine.ensures.frame c.machine_at-machine.ensures.callers c.machine_at-machine.ensures.wishes c.machine_at-machine.ensures.outcomes k c.in_ok-enter.ensures)
