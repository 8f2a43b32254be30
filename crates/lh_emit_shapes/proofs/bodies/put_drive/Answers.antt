use Rattle.lh_unit.specs.declared.inst.Inst.TheVariants as inst
use Rattle.lh_term.proofs.Swaps.{grows_on}
use Rattle.lh_emit_shapes.specs.Putting.{PutsDriveNot}
use Rattle.lh_emit_shapes.proofs.ConditionNeeds.{err-memory}
use Rattle.lh_emit_shapes.proofs.Driven.{can-delay, can-cond, can-part, value-not, after-value, delay-not, after-delay, cond-not, after-cond, part-not, has-room, drv-within, put-ok, put-err}
use Rattle.lh_emit_shapes.proofs.bodies.put_drive.Goals as goal
use Rattle.lh_emit.proofs.StepLaws.{err-cause}

pub returns-in_err-value-clause-cause : goal.returns-in_err-value-clause-cause
returns-in_err-value-clause-cause c =
    let o = c.args.origin.now in let row = c.args.row.now in let ns = c.args.terms.now in let x = c.args.emitter.now in
    err-cause c.from_residual.result c.in_err-value.field-0.0 (PutsDriveNot ns o x row) c.from_residual.ensures.1 (value-not o row ns x c.in_err-value.field-0.0 c.in_err-value.ensures.cause)

pub term-requires-2 : goal.term-requires-2
term-requires-2 c =
    let o = c.args.origin.now in let row = c.args.row.now in let ns = c.args.terms.now in let x = c.args.emitter.now in
    can-delay o row c.term.new.terms c.term.new.self (after-value o row ns x _ _ c.in_ok-value.value c.in_ok-value.ensures.kept c.in_ok-value.ensures.needed c.requires)

pub returns-in_err-after-clause-cause : goal.returns-in_err-after-clause-cause
returns-in_err-after-clause-cause c =
    let o = c.args.origin.now in let row = c.args.row.now in let ns = c.args.terms.now in let x = c.args.emitter.now in
    err-cause c.from_residual-in_err-after.result c.in_err-after.field-0.0 (PutsDriveNot ns o x row) c.from_residual-in_err-after.ensures.1
    (delay-not o row ns x _ _ c.in_ok-value.value c.in_ok-value.ensures.kept c.in_ok-value.ensures.needed c.in_err-after.field-0.0 c.in_err-after.ensures.cause)

pub condition-requires : goal.condition-requires
condition-requires c =
    let o = c.args.origin.now in let row = c.args.row.now in let ns = c.args.terms.now in let x = c.args.emitter.now in
    can-cond o row c.term-2.new.terms c.term-2.new.self
    (after-delay o row ns x _ _ c.in_ok-value.value c.in_ok-value.ensures.kept c.in_ok-value.ensures.needed _ _ c.in_ok-after.after c.in_ok-after.ensures.kept c.in_ok-after.ensures.needed c.requires)

pub returns-in_err-cond-clause-cause : goal.returns-in_err-cond-clause-cause
returns-in_err-cond-clause-cause c =
    let o = c.args.origin.now in let row = c.args.row.now in let ns = c.args.terms.now in let x = c.args.emitter.now in
    err-cause c.from_residual-in_err-cond.result c.in_err-cond.field-0.0 (PutsDriveNot ns o x row) c.from_residual-in_err-cond.ensures.1
    (cond-not o row ns x _ _ c.in_ok-value.value c.in_ok-value.ensures.kept c.in_ok-value.ensures.needed _ _ c.in_ok-after.after c.in_ok-after.ensures.kept c.in_ok-after.ensures.needed
    c.in_err-cond.field-0.0 c.in_err-cond.ensures.cause)

pub part-requires : goal.part-requires
part-requires c =
    let o = c.args.origin.now in let row = c.args.row.now in let ns = c.args.terms.now in let x = c.args.emitter.now in
    can-part o row c.condition.new.terms c.condition.new.emitter
    (after-cond o row ns x _ _ c.in_ok-value.value c.in_ok-value.ensures.kept c.in_ok-value.ensures.needed _ _ c.in_ok-after.after c.in_ok-after.ensures.kept c.in_ok-after.ensures.needed
    _ _ c.in_ok-cond.cond c.in_ok-cond.ensures.kept c.in_ok-cond.ensures.tested c.requires)

pub returns-in_err-part-clause-cause : goal.returns-in_err-part-clause-cause
returns-in_err-part-clause-cause c =
    let o = c.args.origin.now in let row = c.args.row.now in let ns = c.args.terms.now in let x = c.args.emitter.now in
    err-cause c.from_residual-in_err-part.result c.in_err-part.field-0.0 (PutsDriveNot ns o x row) c.from_residual-in_err-part.ensures.1
    (part-not o row ns x _ _ c.in_ok-value.value c.in_ok-value.ensures.kept c.in_ok-value.ensures.needed _ _ c.in_ok-after.after c.in_ok-after.ensures.kept c.in_ok-after.ensures.needed
    _ _ c.in_ok-cond.cond c.in_ok-cond.ensures.kept c.in_ok-cond.ensures.tested c.in_err-part.field-0.0 c.in_err-part.ensures.cause)

pub put-requires-clause-room : goal.put-requires-clause-room
put-requires-clause-room c =
    let o = c.args.origin.now in let row = c.args.row.now in let ns = c.args.terms.now in let x = c.args.emitter.now in
    has-room o row ns x _ _ c.in_ok-value.value c.in_ok-value.ensures.kept c.in_ok-value.ensures.needed _ _ c.in_ok-after.after c.in_ok-after.ensures.kept c.in_ok-after.ensures.needed
    _ _ c.in_ok-cond.cond c.in_ok-cond.ensures.kept c.in_ok-cond.ensures.tested _ c.in_ok-part.part c.in_ok-part.ensures.needed c.requires

pub put-requires-clause-named : goal.put-requires-clause-named
put-requires-clause-named c =
    let o = c.args.origin.now in let row = c.args.row.now in let ns = c.args.terms.now in let x = c.args.emitter.now in
    drv-within o row ns x _ _ c.in_ok-value.value c.in_ok-value.ensures.kept c.in_ok-value.ensures.needed _ _ c.in_ok-after.after c.in_ok-after.ensures.kept c.in_ok-after.ensures.needed
    _ _ c.in_ok-cond.cond c.in_ok-cond.ensures.kept c.in_ok-cond.ensures.tested _ c.in_ok-part.part c.in_ok-part.ensures.needed
    c.in_ok-after.ensures.grows c.in_ok-cond.ensures.grows c.in_ok-part.ensures.grows c.in_ok-to.to c.in_ok-to.ensures c.requires

pub returns-clause-put : goal.returns-clause-put
returns-clause-put c =
    let o = c.args.origin.now in let row = c.args.row.now in let ns = c.args.terms.now in let x = c.args.emitter.now in
    put-ok o row ns x _ _ c.in_ok-value.value c.in_ok-value.ensures.kept c.in_ok-value.ensures.needed _ _ c.in_ok-after.after c.in_ok-after.ensures.kept c.in_ok-after.ensures.needed
    _ _ c.in_ok-cond.cond c.in_ok-cond.ensures.kept c.in_ok-cond.ensures.tested _ c.in_ok-part.part c.in_ok-part.ensures.needed
    c.in_ok-after.ensures.grows c.in_ok-cond.ensures.grows c.in_ok-part.ensures.grows c.in_ok-to.to c.in_ok-to.ensures _ c.put.result c.put.ensures

pub returns-clause-cause : goal.returns-clause-cause
returns-clause-cause c =
    let o = c.args.origin.now in let row = c.args.row.now in let ns = c.args.terms.now in let x = c.args.emitter.now in
    put-err o row ns x _ _ c.in_ok-value.value c.in_ok-value.ensures.kept c.in_ok-value.ensures.needed _ _ c.in_ok-after.after c.in_ok-after.ensures.kept c.in_ok-after.ensures.needed
    _ _ c.in_ok-cond.cond c.in_ok-cond.ensures.kept c.in_ok-cond.ensures.tested _ c.in_ok-part.part c.in_ok-part.ensures.needed
    (inst.Drv c.in_ok-to.to c.in_ok-value.value c.in_ok-after.after c.in_ok-cond.cond) _ c.put.result c.put.ensures

pub returns-in_err-after-clause-kept : goal.returns-in_err-after-clause-kept
returns-in_err-after-clause-kept c = grows_on c.args.terms.now c.term.new.terms c.term-2.new.terms c.in_ok-value.ensures.kept c.in_err-after.ensures.kept

pub returns-in_err-cond-clause-kept : goal.returns-in_err-cond-clause-kept
returns-in_err-cond-clause-kept c =
    grows_on c.args.terms.now c.term-2.new.terms c.condition.new.terms (grows_on c.args.terms.now c.term.new.terms c.term-2.new.terms c.in_ok-value.ensures.kept c.in_ok-after.ensures.kept) c.in_err-cond.ensures.kept

pub returns-in_err-part-clause-kept : goal.returns-in_err-part-clause-kept
returns-in_err-part-clause-kept c =
    grows_on c.args.terms.now c.term-2.new.terms c.condition.new.terms (grows_on c.args.terms.now c.term.new.terms c.term-2.new.terms c.in_ok-value.ensures.kept c.in_ok-after.ensures.kept) c.in_ok-cond.ensures.kept

pub returns-in_err-to-clause-kept : goal.returns-in_err-to-clause-kept
returns-in_err-to-clause-kept c =
    grows_on c.args.terms.now c.term-2.new.terms c.condition.new.terms (grows_on c.args.terms.now c.term.new.terms c.term-2.new.terms c.in_ok-value.ensures.kept c.in_ok-after.ensures.kept) c.in_ok-cond.ensures.kept

pub returns-clause-kept : goal.returns-clause-kept
returns-clause-kept c =
    grows_on c.args.terms.now c.term-2.new.terms c.condition.new.terms (grows_on c.args.terms.now c.term.new.terms c.term-2.new.terms c.in_ok-value.ensures.kept c.in_ok-after.ensures.kept) c.in_ok-cond.ensures.kept

pub returns-in_err-to-clause-cause : goal.returns-in_err-to-clause-cause
returns-in_err-to-clause-cause c =
    err-memory c.from_residual-in_err-to.result (PutsDriveNot c.args.terms.now c.args.origin.now c.args.emitter.now c.args.row.now) c.from_residual-in_err-to.ensures.1 tt
