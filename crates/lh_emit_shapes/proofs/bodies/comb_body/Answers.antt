use Rattle.std.proofs.Common.{List, sym, subst}
use Rattle.lh_term.specs.declared.part.Part.{Part}
use Rattle.lh_region.specs.declared.rows.DriveRow.{DriveRow}
use Rattle.lh_emit_def.proofs.Sites.{comb-no_fault}
use Rattle.lh_term.proofs.Swaps.{grows_on}
use Rattle.lh_emit_shapes.specs.Putting.{CanPutProbes, PutsProbes, PutsProbesNot, CanPutDrives, PutsDrives, PutsDrivesNot}
use Rattle.lh_emit_shapes.proofs.Made.{comb-memory, comb-can-probes, comb-probes-not, comb-can-drives, comb-drives-not, comb-made}
use Rattle.lh_emit_shapes.proofs.bodies.comb_body.Goals as goal

pub put_probes-requires : goal.put_probes-requires
put_probes-requires c =
    let o = c.args.origin.now in let waited = c.args.waited.now in let drives = c.args.drives.now in let ns = c.args.terms.now in let x = c.in_ok-emitter.emitter in
    subst (λ (l : List Part). CanPutProbes ns o x l) (sym c.as_slice.ensures) (comb-can-probes o waited drives ns x c.in_ok-emitter.ensures c.requires)

pub returns-in_err-put_probes-clause-is : goal.returns-in_err-put_probes-clause-is
returns-in_err-put_probes-clause-is c =
    let o = c.args.origin.now in let waited = c.args.waited.now in let drives = c.args.drives.now in let ns = c.args.terms.now in let x = c.in_ok-emitter.emitter in
    let f = c.in_err-put_probes.field-0.0 in
    comb-probes-not o waited drives ns x c.in_ok-emitter.ensures f (subst (λ (l : List Part). PutsProbesNot ns o x l f) c.as_slice.ensures c.in_err-put_probes.ensures.cause)
    c.from_residual-in_err-put_probes.result c.from_residual-in_err-put_probes.ensures.1

pub put_drives-requires : goal.put_drives-requires
put_drives-requires c =
    let o = c.args.origin.now in let waited = c.args.waited.now in let drives = c.args.drives.now in let ns = c.args.terms.now in let x = c.in_ok-emitter.emitter in
    let m1 = c.put_probes.new.terms in let x1 = c.put_probes.new.emitter in
    let put = subst (λ (l : List Part). PutsProbes ns o x l m1 x1) c.as_slice.ensures c.in_ok-put_probes.ensures.put in
    subst (λ (l : List DriveRow). CanPutDrives m1 o x1 l) (sym c.as_slice-2.ensures) (comb-can-drives o waited drives ns x c.in_ok-emitter.ensures m1 x1 c.in_ok-put_probes.ensures.kept put c.requires)

pub returns-in_err-put_drives-clause-is : goal.returns-in_err-put_drives-clause-is
returns-in_err-put_drives-clause-is c =
    let o = c.args.origin.now in let waited = c.args.waited.now in let drives = c.args.drives.now in let ns = c.args.terms.now in let x = c.in_ok-emitter.emitter in
    let m1 = c.put_probes.new.terms in let x1 = c.put_probes.new.emitter in
    let put = subst (λ (l : List Part). PutsProbes ns o x l m1 x1) c.as_slice.ensures c.in_ok-put_probes.ensures.put in
    let f = c.in_err-put_drives.field-0.0 in
    comb-drives-not o waited drives ns x c.in_ok-emitter.ensures m1 x1 c.in_ok-put_probes.ensures.kept put f
    (subst (λ (l : List DriveRow). PutsDrivesNot m1 o x1 l f) c.as_slice-2.ensures c.in_err-put_drives.ensures.cause)
    c.from_residual-in_err-put_drives.result c.from_residual-in_err-put_drives.ensures.1

pub returns-clause-is : goal.returns-clause-is
returns-clause-is c =
    let o = c.args.origin.now in let waited = c.args.waited.now in let drives = c.args.drives.now in let ns = c.args.terms.now in let x = c.in_ok-emitter.emitter in
    let m1 = c.put_probes.new.terms in let x1 = c.put_probes.new.emitter in
    let put = subst (λ (l : List Part). PutsProbes ns o x l m1 x1) c.as_slice.ensures c.in_ok-put_probes.ensures.put in
    let m2 = c.put_drives.new.terms in let x2 = c.put_drives.new.emitter in
    comb-made o waited drives ns x c.in_ok-emitter.ensures m1 x1 c.in_ok-put_probes.ensures.kept put comb-no_fault m2 x2
    (subst (λ (l : List DriveRow). PutsDrives m1 o x1 l m2 x2) c.as_slice-2.ensures c.in_ok-put_drives.ensures.put)
    c.body_of.result c.body_of.ensures.names c.body_of.ensures.lines

pub returns-in_err-put_drives-clause-kept : goal.returns-in_err-put_drives-clause-kept
returns-in_err-put_drives-clause-kept c = grows_on c.args.terms.now c.put_probes.new.terms c.put_drives.new.terms c.in_ok-put_probes.ensures.kept c.in_err-put_drives.ensures.kept

pub returns-clause-kept : goal.returns-clause-kept
returns-clause-kept c = grows_on c.args.terms.now c.put_probes.new.terms c.put_drives.new.terms c.in_ok-put_probes.ensures.kept c.in_ok-put_drives.ensures.kept

pub returns-in_err-emitter-clause-is : goal.returns-in_err-emitter-clause-is
returns-in_err-emitter-clause-is c = comb-memory c.args.origin.now c.args.waited.now c.args.drives.now c.args.terms.now c.from_residual.result c.from_residual.ensures.1
