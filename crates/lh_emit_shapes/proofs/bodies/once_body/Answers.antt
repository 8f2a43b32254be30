use Rattle.std.proofs.Common.{List, sym, subst}
use Rattle.lh_region.specs.declared.rows.DriveRow.{DriveRow}
use Rattle.lh_emit_def.proofs.Sites.{once-no_fault}
use Rattle.lh_emit_shapes.specs.Putting.{CanPutDrives, PutsDrives, PutsDrivesNot}
use Rattle.lh_emit_shapes.proofs.Made.{once-memory, once-can-drives, once-drives-not, once-made}
use Rattle.lh_emit_shapes.proofs.bodies.once_body.Goals as goal

pub put_drives-requires : goal.put_drives-requires
put_drives-requires c =
    let o = c.args.origin.now in let drives = c.args.drives.now in let ns = c.args.terms.now in let x = c.in_ok-emitter.emitter in
    subst (λ (l : List DriveRow). CanPutDrives ns o x l) (sym c.as_slice.ensures) (once-can-drives o drives ns x c.in_ok-emitter.ensures c.requires)

pub returns-in_err-put_drives-clause-is : goal.returns-in_err-put_drives-clause-is
returns-in_err-put_drives-clause-is c =
    let o = c.args.origin.now in let drives = c.args.drives.now in let ns = c.args.terms.now in let x = c.in_ok-emitter.emitter in
    let f = c.in_err-put_drives.field-0.0 in
    once-drives-not o drives ns x c.in_ok-emitter.ensures f (subst (λ (l : List DriveRow). PutsDrivesNot ns o x l f) c.as_slice.ensures c.in_err-put_drives.ensures.cause)
    c.from_residual-in_err-put_drives.result c.from_residual-in_err-put_drives.ensures.1

pub returns-clause-is : goal.returns-clause-is
returns-clause-is c =
    let o = c.args.origin.now in let drives = c.args.drives.now in let ns = c.args.terms.now in let x = c.in_ok-emitter.emitter in
    let m2 = c.put_drives.new.terms in let x2 = c.put_drives.new.emitter in
    once-made o drives ns x c.in_ok-emitter.ensures once-no_fault m2 x2 (subst (λ (l : List DriveRow). PutsDrives ns o x l m2 x2) c.as_slice.ensures c.in_ok-put_drives.ensures.put)
    c.body_of.result c.body_of.ensures.names c.body_of.ensures.lines

pub returns-in_err-emitter-clause-is : goal.returns-in_err-emitter-clause-is
returns-in_err-emitter-clause-is c = once-memory c.args.origin.now c.args.drives.now c.args.terms.now c.from_residual.result c.from_residual.ensures.1
