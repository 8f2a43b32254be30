use Rattle.lh_term.proofs.Swaps.{grows_on}
use Rattle.lh_emit_shapes.specs.Putting.{NeedsTriggerNot}
use Rattle.lh_emit_shapes.proofs.Tells.{names-then}
use Rattle.lh_emit_shapes.proofs.Triggered.{can-now, can-gate, can-delay, value-not, after-value, now-not, after-now, gate-not, after-gate, delay-not, needs-trigger}
use Rattle.lh_emit_shapes.proofs.bodies.reg_trigger.Goals as goal
use Rattle.lh_emit.proofs.StepLaws.{err-cause}

pub returns-in_err-value-clause-cause : goal.returns-in_err-value-clause-cause
returns-in_err-value-clause-cause c =
    let o = c.args.origin.now in let row = c.args.row.now in let g = c.args.trigger.now in let ns = c.args.terms.now in let x = c.args.emitter.now in
    err-cause c.from_residual.result c.in_err-value.field-0.0 (NeedsTriggerNot ns o x row g) c.from_residual.ensures.1
    (value-not o row g ns x c.in_err-value.field-0.0 c.in_err-value.ensures.cause)

pub now-requires : goal.now-requires
now-requires c =
    let o = c.args.origin.now in let row = c.args.row.now in let g = c.args.trigger.now in let ns = c.args.terms.now in let x = c.args.emitter.now in
    can-now o row g c.term.new.terms c.term.new.self (after-value o row g ns x _ _ c.in_ok-value.value c.in_ok-value.ensures.kept c.in_ok-value.ensures.needed c.requires)

pub returns-in_err-now-clause-cause : goal.returns-in_err-now-clause-cause
returns-in_err-now-clause-cause c =
    let o = c.args.origin.now in let row = c.args.row.now in let g = c.args.trigger.now in let ns = c.args.terms.now in let x = c.args.emitter.now in
    err-cause c.from_residual-in_err-now.result c.in_err-now.field-0.0 (NeedsTriggerNot ns o x row g) c.from_residual-in_err-now.ensures.1
    (now-not o row g ns x _ _ c.in_ok-value.value c.in_ok-value.ensures.kept c.in_ok-value.ensures.needed c.in_err-now.field-0.0 c.in_err-now.ensures.cause)

pub condition-requires : goal.condition-requires
condition-requires c =
    let o = c.args.origin.now in let row = c.args.row.now in let g = c.args.trigger.now in let ns = c.args.terms.now in let x = c.args.emitter.now in
    can-gate o row g c.now.new.terms c.now.new.self
    (after-now o row g ns x _ _ c.in_ok-value.value c.in_ok-value.ensures.kept c.in_ok-value.ensures.needed _ _ c.in_ok-now.now c.in_ok-now.ensures.kept c.in_ok-now.ensures.needed c.requires)

pub returns-in_err-gate-clause-cause : goal.returns-in_err-gate-clause-cause
returns-in_err-gate-clause-cause c =
    let o = c.args.origin.now in let row = c.args.row.now in let g = c.args.trigger.now in let ns = c.args.terms.now in let x = c.args.emitter.now in
    err-cause c.from_residual-in_err-gate.result c.in_err-gate.field-0.0 (NeedsTriggerNot ns o x row g) c.from_residual-in_err-gate.ensures.1
    (gate-not o row g ns x _ _ c.in_ok-value.value c.in_ok-value.ensures.kept c.in_ok-value.ensures.needed _ _ c.in_ok-now.now c.in_ok-now.ensures.kept c.in_ok-now.ensures.needed
    c.in_err-gate.field-0.0 c.in_err-gate.ensures.cause)

pub term-requires-2 : goal.term-requires-2
term-requires-2 c =
    let o = c.args.origin.now in let row = c.args.row.now in let g = c.args.trigger.now in let ns = c.args.terms.now in let x = c.args.emitter.now in
    can-delay o row g c.condition.new.terms c.condition.new.emitter
    (after-gate o row g ns x _ _ c.in_ok-value.value c.in_ok-value.ensures.kept c.in_ok-value.ensures.needed _ _ c.in_ok-now.now c.in_ok-now.ensures.kept c.in_ok-now.ensures.needed
    _ _ c.in_ok-gate.gate c.in_ok-gate.ensures.kept c.in_ok-gate.ensures.tested c.requires)

pub returns-in_err-after-clause-cause : goal.returns-in_err-after-clause-cause
returns-in_err-after-clause-cause c =
    let o = c.args.origin.now in let row = c.args.row.now in let g = c.args.trigger.now in let ns = c.args.terms.now in let x = c.args.emitter.now in
    err-cause c.from_residual-in_err-after.result c.in_err-after.field-0.0 (NeedsTriggerNot ns o x row g) c.from_residual-in_err-after.ensures.1
    (delay-not o row g ns x _ _ c.in_ok-value.value c.in_ok-value.ensures.kept c.in_ok-value.ensures.needed _ _ c.in_ok-now.now c.in_ok-now.ensures.kept c.in_ok-now.ensures.needed
    _ _ c.in_ok-gate.gate c.in_ok-gate.ensures.kept c.in_ok-gate.ensures.tested c.in_err-after.field-0.0 c.in_err-after.ensures.cause)

pub returns-clause-grows : goal.returns-clause-grows
returns-clause-grows c = names-then _ _ _ c.in_ok-value.ensures.grows (names-then _ _ _ c.in_ok-now.ensures.grows (names-then _ _ _ c.in_ok-gate.ensures.grows c.in_ok-after.ensures.grows))

pub returns-clause-needed : goal.returns-clause-needed
returns-clause-needed c =
    let o = c.args.origin.now in let row = c.args.row.now in let g = c.args.trigger.now in let ns = c.args.terms.now in let x = c.args.emitter.now in
    needs-trigger o row g ns x _ _ c.in_ok-value.value c.in_ok-value.ensures.kept c.in_ok-value.ensures.needed _ _ c.in_ok-now.now c.in_ok-now.ensures.kept c.in_ok-now.ensures.needed
    _ _ c.in_ok-gate.gate c.in_ok-gate.ensures.kept c.in_ok-gate.ensures.tested
    _ _ c.in_ok-after.after c.in_ok-after.ensures.needed c.in_ok-now.ensures.grows c.in_ok-gate.ensures.grows c.in_ok-after.ensures.grows c.mode_of-mode.result c.mode_of-mode.ensures

pub returns-in_err-now-clause-kept : goal.returns-in_err-now-clause-kept
returns-in_err-now-clause-kept c = grows_on c.args.terms.now c.term.new.terms c.now.new.terms c.in_ok-value.ensures.kept c.in_err-now.ensures.kept

pub returns-in_err-gate-clause-kept : goal.returns-in_err-gate-clause-kept
returns-in_err-gate-clause-kept c =
    grows_on c.args.terms.now c.now.new.terms c.condition.new.terms (grows_on c.args.terms.now c.term.new.terms c.now.new.terms c.in_ok-value.ensures.kept c.in_ok-now.ensures.kept) c.in_err-gate.ensures.kept

pub returns-in_err-after-clause-kept : goal.returns-in_err-after-clause-kept
returns-in_err-after-clause-kept c =
    grows_on c.args.terms.now c.condition.new.terms c.term-2.new.terms
    (grows_on c.args.terms.now c.now.new.terms c.condition.new.terms (grows_on c.args.terms.now c.term.new.terms c.now.new.terms c.in_ok-value.ensures.kept c.in_ok-now.ensures.kept) c.in_ok-gate.ensures.kept)
    c.in_err-after.ensures.kept

pub returns-clause-kept : goal.returns-clause-kept
returns-clause-kept c =
    grows_on c.args.terms.now c.condition.new.terms c.term-2.new.terms
    (grows_on c.args.terms.now c.now.new.terms c.condition.new.terms (grows_on c.args.terms.now c.term.new.terms c.now.new.terms c.in_ok-value.ensures.kept c.in_ok-now.ensures.kept) c.in_ok-gate.ensures.kept)
    c.in_ok-after.ensures.kept
