use Rattle.std.proofs.Common.{◌≡◌, length, sym, ◌∙◌, arith}
use Rattle.lh_unit.specs.declared.inst.Inst.TheVariants as inst
use Rattle.lh_emit_shapes.specs.Putting.{PutsRegisterNot}
use Rattle.lh_emit_shapes.proofs.Registers.{none-registered, reg-triggers-not, reg-can-part, reg-part-not, reg-has-room, reg-within, reg-put-ok, reg-put-err}
use Rattle.lh_emit_shapes.proofs.bodies.put_register.Goals as goal
use Rattle.lh_emit.proofs.StepLaws.{err-cause}

pub returns-then-len-eq0-clause-put : goal.returns-then-len-eq0-clause-put
returns-then-len-eq0-clause-put c = none-registered c.args.origin.now c.args.row.now c.args.terms.now c.args.emitter.now (sym c.len.ensures ∙ grind (arith, c.if-len-eq0.true))

pub returns-in_err-triggers-clause-cause : goal.returns-in_err-triggers-clause-cause
returns-in_err-triggers-clause-cause c =
    let o = c.args.origin.now in let row = c.args.row.now in let ns = c.args.terms.now in let x = c.args.emitter.now in
    let some : length row.triggers ≡ 0 → ⊥ = λ q. grind (arith, q, c.if-len-eq0.false, c.len.ensures) in
    err-cause c.from_residual.result c.in_err-triggers.field-0.0 (PutsRegisterNot ns o x row) c.from_residual.ensures.1
    (reg-triggers-not o row ns x some c.in_err-triggers.field-0.0 c.in_err-triggers.ensures.cause)

pub part-requires : goal.part-requires
part-requires c =
    let o = c.args.origin.now in let row = c.args.row.now in let ns = c.args.terms.now in let x = c.args.emitter.now in
    let some : length row.triggers ≡ 0 → ⊥ = λ q. grind (arith, q, c.if-len-eq0.false, c.len.ensures) in
    reg-can-part o row ns x some _ _ c.in_ok-triggers.triggers c.in_ok-triggers.ensures.kept c.in_ok-triggers.ensures.needed c.requires

pub returns-in_err-part-clause-cause : goal.returns-in_err-part-clause-cause
returns-in_err-part-clause-cause c =
    let o = c.args.origin.now in let row = c.args.row.now in let ns = c.args.terms.now in let x = c.args.emitter.now in
    let some : length row.triggers ≡ 0 → ⊥ = λ q. grind (arith, q, c.if-len-eq0.false, c.len.ensures) in
    err-cause c.from_residual-in_err-part.result c.in_err-part.field-0.0 (PutsRegisterNot ns o x row) c.from_residual-in_err-part.ensures.1
    (reg-part-not o row ns x some _ _ c.in_ok-triggers.triggers c.in_ok-triggers.ensures.kept c.in_ok-triggers.ensures.needed c.in_err-part.field-0.0 c.in_err-part.ensures.cause)

pub put-requires-clause-room : goal.put-requires-clause-room
put-requires-clause-room c =
    let o = c.args.origin.now in let row = c.args.row.now in let ns = c.args.terms.now in let x = c.args.emitter.now in
    let some : length row.triggers ≡ 0 → ⊥ = λ q. grind (arith, q, c.if-len-eq0.false, c.len.ensures) in
    reg-has-room o row ns x some _ _ c.in_ok-triggers.triggers c.in_ok-triggers.ensures.kept c.in_ok-triggers.ensures.needed _ c.in_ok-part.part c.in_ok-part.ensures.needed c.requires

pub put-requires-clause-named : goal.put-requires-clause-named
put-requires-clause-named c =
    let o = c.args.origin.now in let row = c.args.row.now in let ns = c.args.terms.now in let x = c.args.emitter.now in
    let some : length row.triggers ≡ 0 → ⊥ = λ q. grind (arith, q, c.if-len-eq0.false, c.len.ensures) in
    reg-within o row ns x some _ _ c.in_ok-triggers.triggers c.in_ok-triggers.ensures.kept c.in_ok-triggers.ensures.needed _ c.in_ok-part.part c.in_ok-part.ensures.needed c.in_ok-part.ensures.grows
    c.in_ok-to.to c.in_ok-to.ensures c.requires

pub returns-clause-put : goal.returns-clause-put
returns-clause-put c =
    let o = c.args.origin.now in let row = c.args.row.now in let ns = c.args.terms.now in let x = c.args.emitter.now in
    let some : length row.triggers ≡ 0 → ⊥ = λ q. grind (arith, q, c.if-len-eq0.false, c.len.ensures) in
    reg-put-ok o row ns x some _ _ c.in_ok-triggers.triggers c.in_ok-triggers.ensures.kept c.in_ok-triggers.ensures.needed _ c.in_ok-part.part c.in_ok-part.ensures.needed c.in_ok-part.ensures.grows
    c.in_ok-to.to c.in_ok-to.ensures _ c.put.result c.put.ensures

pub returns-clause-cause : goal.returns-clause-cause
returns-clause-cause c =
    let o = c.args.origin.now in let row = c.args.row.now in let ns = c.args.terms.now in let x = c.args.emitter.now in
    let some : length row.triggers ≡ 0 → ⊥ = λ q. grind (arith, q, c.if-len-eq0.false, c.len.ensures) in
    reg-put-err o row ns x some _ _ c.in_ok-triggers.triggers c.in_ok-triggers.ensures.kept c.in_ok-triggers.ensures.needed _ c.in_ok-part.part c.in_ok-part.ensures.needed
    (inst.Reg c.in_ok-to.to c.in_ok-triggers.triggers) _ c.put.result c.put.ensures
