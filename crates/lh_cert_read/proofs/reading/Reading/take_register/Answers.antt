use Rattle.std.proofs.Common.{List, map, refl, ap, sym, ◌∙◌}
use Rattle.std.proofs.lemmas.Result.{on_ok_weaker}
use Rattle.lh_unit.specs.Arena.{naming}
use Rattle.lh_unit.specs.Naming.{value_text, trigger_text}
use Rattle.lh_region_def.specs.Known.{part_known}
use Rattle.lh_cert_rows.specs.Reading.{register_row, triggers_known}
use Rattle.lh_cert_read.specs.Lines.{register_by}
use Rattle.lh_cert_read.specs.declared.reading.Reading.{Reading}
use Rattle.lh_cert_read.specs.declared.rows.RegisterRow.{RegisterRow}
use Rattle.lh_cert_read.proofs.Steps.{register-said, no-register-said}
use Rattle.lh_cert_read.proofs.RowsFound.{register-found}
use Rattle.lh_cert_read.proofs.reading.Reading.take_register.Goals as goal

pub returns-in-Some-clause-says : goal.returns-in-Some-clause-says
returns-in-Some-clause-says c = on_ok_weaker c.push.result (λ q a u e o h r.
    let ms = c.triggers_of.new.terms in
    let was = c.args.self.now in
    let k = e.known in
    let f = naming a u in
    let is : Reading = record { known = was.known; rows = record was.rows { registers = c.push.new.self } } in
    register-said a u c.args.terms.now ms c.in_ok-triggers.ensures.kept was e r (register_by c.in_ok-part.part c.in_ok-triggers.triggers)
    (register_row (part_known k (value_text f c.args.to)) (triggers_known k (map (trigger_text f) c.args.triggers.now)))
    (register-found a u c.args.terms.now ms c.in_ok-triggers.ensures.kept was.known.values.items k r.known c.args.to c.args.triggers.now c.requires.to c.in_ok-part.part c.in_ok-triggers.triggers
    c.in_ok-part.ensures (c.in_ok-triggers.ensures.found a u k r.known))
    c.in-Some.register (sym c.register_by.ensures ∙ c.in-Some.is) is refl (ap (λ (rs : List RegisterRow). record was.rows { registers = rs }) q)) c.push.ensures.ok

pub returns-in-None-clause-says : goal.returns-in-None-clause-says
returns-in-None-clause-says c = λ a u e o h r.
    let ms = c.triggers_of.new.terms in
    let was = c.args.self.now in
    let k = e.known in
    let f = naming a u in
    no-register-said a u c.args.terms.now ms c.in_ok-triggers.ensures.kept was e r (register_by c.in_ok-part.part c.in_ok-triggers.triggers)
    (register_row (part_known k (value_text f c.args.to)) (triggers_known k (map (trigger_text f) c.args.triggers.now)))
    (register-found a u c.args.terms.now ms c.in_ok-triggers.ensures.kept was.known.values.items k r.known c.args.to c.args.triggers.now c.requires.to c.in_ok-part.part c.in_ok-triggers.triggers
    c.in_ok-part.ensures (c.in_ok-triggers.ensures.found a u k r.known))
    (sym c.register_by.ensures ∙ c.in-None.is)
