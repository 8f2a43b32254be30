use Rattle.std.proofs.Common.{subst}
use Rattle.std.proofs.lemmas.Result.{on_ok_weaker}
use Rattle.lh_types.specs.Values.{Datum}
use Rattle.lh_term.specs.Tree.{constant}
use Rattle.lh_term.specs.Arena.{StandsForTree}
use Rattle.lh_region_places.specs.Asked.{SamePlaces, IsWithAt}
use Rattle.lh_region.specs.Gives.{GivesTerm}
use Rattle.lh_region_walk.specs.Lines.{IsThat, GivesWhere}
use Rattle.lh_region_places.proofs.PlaceLists.{with-same}
use Rattle.lh_region_joins.proofs.Conditions.{grows-none}
use Rattle.lh_region_walk.proofs.GivingWhere.{gives-that}
use Rattle.lh_region_walk.proofs.lines.give_constant.Goals as goal

pub returns-clause-same : goal.returns-clause-same
returns-clause-same c =
    let ps = c.args.places.now.items in let qs = c.give.new.places.items in
    on_ok_weaker {P = IsWithAt ps c.args.at c.args.to c.in_ok-term.term qs} {Q = SamePlaces ps qs} c.give.result (with-same ps qs c.args.to c.args.at c.in_ok-term.term) c.give.ensures.with_term

pub returns-clause-gives : goal.returns-clause-gives
returns-clause-gives c =
    let ns = c.args.terms.now in let ms = c.konst.new.self in let ps = c.args.places.now.items in let qs = c.give.new.places.items in
    let y = constant c.args.value.now in
    let st = subst (λ (d : Datum). StandsForTree ms c.in_ok-term.term (constant d)) c.in_ok-value.ensures c.in_ok-term.ensures.made in
    on_ok_weaker {P = GivesTerm ps c.args.at c.args.to c.in_ok-term.term qs} {Q = GivesWhere (IsThat y) ns ps c.args.at c.args.to ms qs} c.give.result
    (gives-that ns ms ps qs c.args.at c.args.to c.in_ok-term.term y c.konst.ensures.kept st) c.give.ensures.gives

pub returns-in_err-value-clause-kept : goal.returns-in_err-value-clause-kept
returns-in_err-value-clause-kept c = grows-none c.args.terms.now

pub returns-in_err-term-clause-kept : goal.returns-in_err-term-clause-kept
returns-in_err-term-clause-kept c = c.konst.ensures.kept

pub returns-clause-kept : goal.returns-clause-kept
returns-clause-kept c = c.konst.ensures.kept
