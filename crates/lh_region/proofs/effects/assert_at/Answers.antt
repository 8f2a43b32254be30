use Rattle.std.proofs.Common.{◌∙◌, List, ap, sym, subst}
use Rattle.lh_term.specs.declared.term.TermId.{TermId}
use Rattle.lh_region.specs.declared.taking.PlaceValue.{PlaceValue}
use Rattle.lh_region.specs.Taken.{asks_at, CanAskAll, ValuesAreTold, StillToldAll}
use Rattle.lh_region.specs.Effects.{IsWithAsserts}
use Rattle.lh_region_joins.proofs.Conditions.{grows-none}
use Rattle.lh_region.proofs.RowLists.{asserted-more}
use Rattle.lh_region.proofs.effects.assert_at.Goals as goal

pub returns-clause-still : goal.returns-clause-still
returns-clause-still c =
    let ns = c.args.terms.now in let ms = c.ask_all.new.terms in let ps = c.args.places.now.items in
    let a = c.as_slice-2.ensures.value ∙ c.in_ok-asks.ensures ∙ ap (asks_at c.args.at) c.as_slice.ensures in
    subst (λ (x : List PlaceValue). StillToldAll ns ps ms c.ask_all.new.places.items x) a c.in_ok-conds.ensures.still

pub returns-clause-rows : goal.returns-clause-rows
returns-clause-rows c =
    let ns = c.args.terms.now in let ms = c.ask_all.new.terms in let ps = c.args.places.now.items in let ts = c.in_ok-conds.conds in
    let a = c.as_slice-2.ensures.value ∙ c.in_ok-asks.ensures ∙ ap (asks_at c.args.at) c.as_slice.ensures in
    asserted-more ns ms ps c.args.rows.now c.add_asserts.new.rows c.args.at c.args.args.now ts c.ask_all.ensures.kept
    (subst (λ (x : List PlaceValue). ValuesAreTold ns ps ms x ts) a c.in_ok-conds.ensures.terms)
    (subst (λ (x : List TermId). IsWithAsserts c.args.rows.now x c.add_asserts.new.rows) c.as_slice-3.ensures c.in_ok-add_asserts.ensures)

pub returns-in_err-asks-clause-kept : goal.returns-in_err-asks-clause-kept
returns-in_err-asks-clause-kept c = grows-none c.args.terms.now

pub returns-in_err-conds-clause-kept : goal.returns-in_err-conds-clause-kept
returns-in_err-conds-clause-kept c = c.ask_all.ensures.kept

pub ask_all-requires : goal.ask_all-requires
ask_all-requires c =
    let a = c.as_slice-2.ensures.value ∙ c.in_ok-asks.ensures ∙ ap (asks_at c.args.at) c.as_slice.ensures in
    subst (CanAskAll c.args.terms.now c.args.places.now.items) (sym a) c.requires

pub returns-in_err-add_asserts-clause-kept : goal.returns-in_err-add_asserts-clause-kept
returns-in_err-add_asserts-clause-kept c = c.ask_all.ensures.kept

pub returns-clause-kept : goal.returns-clause-kept
returns-clause-kept c = c.ask_all.ensures.kept
