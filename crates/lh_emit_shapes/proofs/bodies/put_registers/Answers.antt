use Rattle.std.proofs.Common.{◌+◌, drop}
use Rattle.std.proofs.lemmas.List.{drop_all}
use Rattle.lh_unit.proofs.Lists.{drop-item}
use Rattle.lh_term.proofs.Swaps.{grows_on}
use Rattle.lh_emit_shapes.specs.Putting.{PutsRegistersNot}
use Rattle.lh_emit_shapes.proofs.RowGrowth.{grows-same}
use Rattle.lh_emit_shapes.proofs.Registers.{registers-begin, registers-can, registers-next, registers-not, registers-end}
use Rattle.lh_emit_shapes.proofs.bodies.put_registers.Goals as goal
use Rattle.lh_emit.proofs.StepLaws.{err-cause}

pub returns-in_err-put_register-clause-cause : goal.returns-in_err-put_register-clause-cause
returns-in_err-put_register-clause-cause c =
    let o = c.args.origin.now in let ns = c.args.terms.now in let x = c.args.emitter.now in let all = c.args.rows.now in let i = c.loop-row.row-index in
    err-cause c.from_residual.result c.in_err-put_register.field-0.0 (PutsRegistersNot ns o x all) c.from_residual.ensures.1
    (registers-not o all ns x c.loop-row.terms c.loop-row.emitter c.row-item.result (drop (i + 1) all) (drop i all) (drop-item all i c.row-item.result c.loop-row-test.true c.row-item.is)
    c.loop-row.invariant
    c.in_err-put_register.field-0.0 c.in_err-put_register.ensures.cause)

pub loop-row-preserved : goal.loop-row-preserved
loop-row-preserved c =
    let o = c.args.origin.now in let ns = c.args.terms.now in let x = c.args.emitter.now in let all = c.args.rows.now in let i = c.loop-row.row-index in
    registers-next o all ns x c.loop-row.terms c.loop-row.emitter c.row-item.result (drop (i + 1) all) (drop i all) (drop-item all i c.row-item.result c.loop-row-test.true c.row-item.is)
    c.loop-row.invariant
    _ _ c.in_ok-put_register.ensures.kept c.in_ok-put_register.ensures.put

pub returns-in_err-put_register-clause-kept : goal.returns-in_err-put_register-clause-kept
returns-in_err-put_register-clause-kept c = grows_on c.args.terms.now c.loop-row.terms c.put_register.new.terms c.loop-row.invariant.grows c.in_err-put_register.ensures.kept

pub returns-clause-kept : goal.returns-clause-kept
returns-clause-kept c = c.loop-row.invariant.grows

pub loop-row-init : goal.loop-row-init
loop-row-init c = registers-begin c.args.origin.now c.args.rows.now c.args.terms.now c.args.emitter.now (grows-same c.args.terms.now) c.requires

pub put_register-requires : goal.put_register-requires
put_register-requires c =
    let all = c.args.rows.now in let i = c.loop-row.row-index in
    registers-can c.args.origin.now all c.args.terms.now c.args.emitter.now c.loop-row.terms c.loop-row.emitter c.row-item.result (drop (i + 1) all) (drop i all) (drop-item all i c.row-item.result c.loop-row-test.true c.row-item.is)
    c.loop-row.invariant

pub returns-clause-put : goal.returns-clause-put
returns-clause-put c =
    let all = c.args.rows.now in let i = c.loop-row.row-index in
    registers-end c.args.origin.now all c.args.terms.now c.args.emitter.now c.loop-row.terms c.loop-row.emitter (drop i all) (drop_all i all c.loop-row-test.false) c.loop-row.invariant
