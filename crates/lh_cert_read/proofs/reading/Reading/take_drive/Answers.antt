use Rattle.std.proofs.Common.{List, refl, ap, sym, ◌∙◌}
use Rattle.std.proofs.lemmas.Result.{on_ok_weaker}
use Rattle.lh_unit.specs.Arena.{naming}
use Rattle.lh_unit.specs.Naming.{maybe_text, value_text}
use Rattle.lh_region_def.specs.Known.{value_known, part_known}
use Rattle.lh_region.specs.declared.rows.DriveRow.{DriveRow}
use Rattle.lh_cert_rows.specs.Reading.{condition_known, drive_row}
use Rattle.lh_cert_read.specs.Lines.{drive_by}
use Rattle.lh_cert_read.specs.declared.reading.Reading.{Reading}
use Rattle.lh_cert_read.proofs.Steps.{drive-said, no-drive-said}
use Rattle.lh_cert_read.proofs.RowsFound.{drive-found}
use Rattle.lh_cert_read.proofs.reading.Reading.take_drive.Goals as goal

pub returns-in-Some-clause-says : goal.returns-in-Some-clause-says
returns-in-Some-clause-says c = on_ok_weaker c.push.result (λ q a u e o h r.
    let ms = c.condition_of.new.terms in
    let was = c.args.self.now in
    let k = e.known in
    let f = naming a u in
    let is : Reading = record { known = was.known; rows = record was.rows { drives = c.push.new.self } } in
    drive-said a u c.args.terms.now ms c.in_ok-cond.ensures.kept was e r (drive_by c.in_ok-cond.cond c.in_ok-part.part c.term-value.result c.term-delay.result)
    (drive_row (condition_known k (maybe_text f c.args.cond)) (part_known k (value_text f c.args.to)) (value_known k (value_text f c.args.value)) (value_known k (value_text f c.args.after)))
    (drive-found a u c.args.terms.now ms c.in_ok-cond.ensures.kept was.known.values.items k r.known c.args.to c.args.value c.args.after c.requires.to c.requires.value c.requires.after _ _ _ _ _
    (c.in_ok-cond.ensures.found a u k r.known) c.in_ok-part.ensures c.term-value.ensures c.term-delay.ensures)
    c.in-Some.drive (sym c.drive_by.ensures ∙ c.in-Some.is) is refl (ap (λ (ds : List DriveRow). record was.rows { drives = ds }) q)) c.push.ensures.ok

pub returns-in-None-clause-says : goal.returns-in-None-clause-says
returns-in-None-clause-says c = λ a u e o h r.
    let ms = c.condition_of.new.terms in
    let was = c.args.self.now in
    let k = e.known in
    let f = naming a u in
    no-drive-said a u c.args.terms.now ms c.in_ok-cond.ensures.kept was e r (drive_by c.in_ok-cond.cond c.in_ok-part.part c.term-value.result c.term-delay.result)
    (drive_row (condition_known k (maybe_text f c.args.cond)) (part_known k (value_text f c.args.to)) (value_known k (value_text f c.args.value)) (value_known k (value_text f c.args.after)))
    (drive-found a u c.args.terms.now ms c.in_ok-cond.ensures.kept was.known.values.items k r.known c.args.to c.args.value c.args.after c.requires.to c.requires.value c.requires.after _ _ _ _ _
    (c.in_ok-cond.ensures.found a u k r.known) c.in_ok-part.ensures c.term-value.ensures c.term-delay.ensures)
    (sym c.drive_by.ensures ∙ c.in-None.is)
