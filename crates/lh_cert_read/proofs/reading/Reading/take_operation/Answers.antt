use Rattle.std.proofs.Common.{◌≡◌, Some, None, refl, ap, sym, ◌∙◌, subst}
use Rattle.std.specs.Option.{option_map}
use Rattle.lh_unit.specs.Arena.{naming}
use Rattle.lh_unit.specs.Naming.{maybe_text, operand_text}
use Rattle.std.proofs.Common.{map}
use Rattle.lh_term.specs.Arena.{trees_at}
use Rattle.lh_term.proofs.Arenas.{grows_none}
use Rattle.lh_flat_parts.specs.Steps.{step_in, step_on}
use Rattle.lh_region_def.specs.Known.{known_value}
use Rattle.lh_region_def.specs.Places.{part_stepped}
use Rattle.lh_cert_terms.specs.Rebuilding.{read_operation}
use Rattle.lh_cert_rows.specs.Reading.{gives}
use Rattle.lh_cert_read.specs.Known.{terms_at, part_by, IsKnown}
use Rattle.lh_cert_read.specs.Lines.{IsReading}
use Rattle.lh_cert_read.specs.declared.known.Known.TheVariants as known
use Rattle.lh_cert_read.specs.declared.reading.Reading.{Reading}
use Rattle.lh_cert_read.proofs.Steps.{gives-read, gives-maybe}
use Rattle.lh_cert_read.proofs.Taking.{step-known, operated-term, operated-part}
use Rattle.lh_cert_read.proofs.reading.Reading.take_operation.Goals as goal

pub read_operation-requires-clause-fits : goal.read_operation-requires-clause-fits
read_operation-requires-clause-fits c = (c.requires.operands c.as_slice.result.now (sym c.in_ok-operands.ensures ∙ c.in-Some.is ∙ ap Some (sym c.as_slice.ensures))).1

pub returns-in_ok-term-in-Some-clause-says : goal.returns-in_ok-term-in-Some-clause-says
returns-in_ok-term-in-Some-clause-says c = λ a u e o h r.
    let values = c.args.self.now.known.values.items in
    let ids = c.as_slice.result.now in
    let q : terms_at values c.args.args.now ≡ Some ids = sym c.in_ok-operands.ensures ∙ c.in-Some.is ∙ ap Some (sym c.as_slice.ensures) in
    let is : Reading = record { known = c.give.new.self; rows = c.args.self.now.rows } in
    subst (λ y. IsReading a u c.read_operation.new.terms is (gives e (maybe_text (naming a u) c.args.name) y))
    (sym (operated-term a u c.args.terms.now values e.known r.known c.args.op.now c.args.args.now c.requires.within ids q))
    (gives-read a u c.args.terms.now c.read_operation.new.terms c.in_ok-term-in-Some.ensures.kept c.args.self.now e r o h c.args.name c.requires.name (known.Term c.in_ok-term-in-Some.term)
    (known_value (read_operation c.args.op.now (trees_at c.args.terms.now ids))) c.in_ok-term-in-Some.ensures.made is c.give.ensures refl)

pub returns-in_ok-part-in-None-clause-says : goal.returns-in_ok-part-in-None-clause-says
returns-in_ok-part-in-None-clause-says c = λ a u e o h r.
    let ns = c.args.terms.now in
    let values = c.args.self.now.known.values.items in
    let q : terms_at values c.args.args.now ≡ None = sym c.in_ok-operands.ensures ∙ c.in-None.is in
    let is : Reading = record { known = c.give-in-None.new.self; rows = c.args.self.now.rows } in
    let os = map (operand_text (naming a u)) c.args.args.now in
    let part : c.in_ok-part-in-None.part ≡ option_map known.Part (part_by values (step_on c.args.op.now c.args.args.now)) =
    c.in_ok-part-in-None.ensures ∙ ap (λ i. option_map known.Part (part_by values (step_in i))) c.requires.is in
    subst (λ y. IsReading a u ns is (gives e (maybe_text (naming a u) c.args.name) y))
    (sym (operated-part a u ns values e.known r.known c.args.op.now c.args.args.now c.requires.within q))
    (gives-maybe a u ns ns (grows_none ns) c.args.self.now e r o h c.args.name c.requires.name c.in_ok-part-in-None.part (part_stepped e.known c.args.op.now os)
    (subst (λ x. IsKnown ns x (part_stepped e.known c.args.op.now os)) (sym part) (step-known a u ns values e.known r.known c.args.op.now c.args.args.now c.requires.within ns c.requires.step))
    is c.give-in-None.ensures refl)
