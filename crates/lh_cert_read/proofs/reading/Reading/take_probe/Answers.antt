use Rattle.std.proofs.Common.{◌≡◌, List, [], ◌∷◌, ◌++◌, Some, ap, sym, ◌∙◌, subst}
use Rattle.lh_unit.specs.Arena.{naming}
use Rattle.lh_unit.specs.Naming.{maybe_text, value_text}
use Rattle.lh_term.specs.Tree.{now_of}
use Rattle.lh_term.specs.declared.part.Part.{Part}
use Rattle.lh_region_def.specs.Known.{known_value, part_known}
use Rattle.lh_cert_rows.specs.Reading.{EntityText, probed}
use Rattle.lh_cert_read.specs.Lines.{IsReading}
use Rattle.lh_cert_read.specs.declared.known.Known.TheVariants as known
use Rattle.lh_cert_read.specs.declared.reading.Reading.{Reading}
use Rattle.lh_cert_read.proofs.Found.{part-found}
use Rattle.lh_cert_read.proofs.Steps.{gives-read}
use Rattle.lh_cert_read.proofs.reading.Reading.take_probe.Goals as goal

pub returns-clause-says : goal.returns-clause-says
returns-clause-says c = λ a u e o h r.
    let ns = c.args.terms.now in
    let ms = c.now.new.self in
    let was = c.args.self.now in
    let values = was.known.values.items in
    let p = c.in-Some.part in
    let there : part_known e.known (value_text (naming a u) c.args.signal.now.value) ≡ Some p =
    sym (part-found a u ns values e.known r.known c.args.signal.now.value c.requires.within) ∙ sym c.in_ok-part.ensures ∙ c.in-Some.is in
    let is : Reading = record { known = c.give.new.self; rows = record was.rows { probes = c.push.new.self } } in
    let was' : Reading = record { known = was.known; rows = record was.rows { probes = was.rows.probes ++ p ∷ [] } } in
    let e' : EntityText = record e { probes = e.probes ++ p ∷ [] } in
    let r' : IsReading a u ns was' e' =
    record { known = r.known; says = record { probes = ap (λ (ps : List Part). ps ++ p ∷ []) r.says.probes; drives = r.says.drives; registers = r.says.registers } } in
    subst (λ y. IsReading a u ms is (probed e (maybe_text (naming a u) c.args.name) y)) (sym there)
    (gives-read a u ns ms c.in_ok-term.ensures.kept was' e' r' o h c.args.name c.requires.name (known.Term c.in_ok-term.term) (known_value (now_of p)) c.in_ok-term.ensures.made is c.give.ensures
    (ap (λ (ps : List Part). record was.rows { probes = ps }) c.in_ok-push.ensures.ok))
