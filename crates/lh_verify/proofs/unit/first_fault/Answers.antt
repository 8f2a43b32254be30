use Rattle.std.proofs.Common.{List, sym, ◌∙◌, subst}
use Rattle.lh_unit.specs.Within.{Each}
use Rattle.lh_unit.specs.Arena.{naming, args_at, table_at, value_count, inst_count}
use Rattle.lh_verify_values.specs.declared.scope.Fact.{Fact}
use Rattle.lh_verify_values.specs.FactsOfUnit.{FactsAfter}
use Rattle.lh_verify_labels.specs.Marking.{MarksProbed, MarksLabels}
use Rattle.lh_verify.specs.SpotsWithin.{SpotWithin}
use Rattle.lh_verify_values.specs.Facts.{items_in, text_in}
use Rattle.lh_verify_values.specs.Numbers.{NumbersGrow}
use Rattle.lh_verify.proofs.NumbersKept.{params-grow, ok-always}
use Rattle.lh_verify.proofs.ScopeIs.{scope-is, spots-within}
use Rattle.lh_verify.proofs.unit.first_fault.Goals as goal

pub wrong_phis-requires-clause-within : goal.wrong_phis-requires-clause-within
wrong_phis-requires-clause-within c = subst (Each (SpotWithin (inst_count c.args.m.now c.args.unit.0))) (sym (c.as_slice.ensures ∙ c.in_ok-list.ensures.places))
    (spots-within c.args.m.now c.args.unit.0 c.in_ok-list.ensures.sound c.requires.unit)

pub first_in-requires-clause-scope : goal.first_in-requires-clause-scope
first_in-requires-clause-scope c =
    let a = c.args.m.now in
    let u = c.args.unit.0 in
    scope-is _ c.in_ok-list.ensures.sound c.requires.unit
    (subst (λ (l : List Fact). FactsAfter c.facts.new.types (value_count a u) (naming a u) (args_at a u) (table_at a u).lines l) (sym c.as_slice-2.ensures.value) c.in_ok-known.ensures.facts)
    (subst (MarksProbed a u) (sym c.as_slice-3.ensures.value) c.in_ok-from_probe.ensures)
    (subst (MarksLabels a u) (sym c.as_slice-4.ensures.value) c.in_ok-standing.ensures)
    (params-grow c.args.types.now c.facts.new.types a c.args.params.now c.in_ok-known.ensures.grows c.requires.params)

pub first_in-requires-clause-within : goal.first_in-requires-clause-within
first_in-requires-clause-within c = subst (Each (SpotWithin (inst_count c.args.m.now c.args.unit.0))) (sym (c.as_slice-5.ensures ∙ c.in_ok-list.ensures.places))
    (spots-within c.args.m.now c.args.unit.0 c.in_ok-list.ensures.sound c.requires.unit)

pub returns-clause-found : goal.returns-clause-found
unfolding items_in text_in
returns-clause-found c = c.first_in.ensures

pub returns-clause-grows : goal.returns-clause-grows
returns-clause-grows c = ok-always (NumbersGrow c.args.types.now c.facts.new.types) c.first_in.result c.in_ok-known.ensures.grows
