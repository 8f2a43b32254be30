use Rattle.std.proofs.Common.{List, sym, subst}
use Rattle.lh_edge.specs.declared.triggers.EdgeRow.{EdgeRow}
use Rattle.lh_emit_def.proofs.Sites.{edge-no_fault}
use Rattle.lh_emit_shapes.specs.Putting.{CanPutRegisters, PutsRegisters, PutsRegistersNot}
use Rattle.lh_emit_shapes.proofs.Made.{edge-memory, edge-can-registers, edge-registers-not, edge-made}
use Rattle.lh_emit_shapes.proofs.bodies.edge_body.Goals as goal

pub put_registers-requires : goal.put_registers-requires
put_registers-requires c =
    let o = c.args.origin.now in let rows = c.args.rows.now in let ns = c.args.terms.now in let x = c.in_ok-emitter.emitter in
    subst (λ (l : List EdgeRow). CanPutRegisters ns o x l) (sym c.as_slice.ensures) (edge-can-registers o rows ns x c.in_ok-emitter.ensures c.requires)

pub returns-in_err-put_registers-clause-is : goal.returns-in_err-put_registers-clause-is
returns-in_err-put_registers-clause-is c =
    let o = c.args.origin.now in let rows = c.args.rows.now in let ns = c.args.terms.now in let x = c.in_ok-emitter.emitter in
    let f = c.in_err-put_registers.field-0.0 in
    edge-registers-not o rows ns x c.in_ok-emitter.ensures f (subst (λ (l : List EdgeRow). PutsRegistersNot ns o x l f) c.as_slice.ensures c.in_err-put_registers.ensures.cause)
    c.from_residual-in_err-put_registers.result c.from_residual-in_err-put_registers.ensures.1

pub returns-clause-is : goal.returns-clause-is
returns-clause-is c =
    let o = c.args.origin.now in let rows = c.args.rows.now in let ns = c.args.terms.now in let x = c.in_ok-emitter.emitter in
    let m2 = c.put_registers.new.terms in let x2 = c.put_registers.new.emitter in
    edge-made o rows ns x c.in_ok-emitter.ensures edge-no_fault m2 x2 (subst (λ (l : List EdgeRow). PutsRegisters ns o x l m2 x2) c.as_slice.ensures c.in_ok-put_registers.ensures.put)
    c.body_of.result c.body_of.ensures.names c.body_of.ensures.lines

pub returns-in_err-emitter-clause-is : goal.returns-in_err-emitter-clause-is
returns-in_err-emitter-clause-is c = edge-memory c.args.origin.now c.args.rows.now c.args.terms.now c.from_residual.result c.from_residual.ensures.1
