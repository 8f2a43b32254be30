use Rattle.std.proofs.Common.{◌∙◌, ◌<◌, ℕ, sym, subst}
use Rattle.std.proofs.lemmas.Result.{on_ok_weaker}
use Rattle.lh_region_places.specs.Asked.{SamePlaces, IsWithAt}
use Rattle.lh_region.specs.Gives.{GivesTerm}
use Rattle.lh_region_walk.specs.Lines.{IsToldOf, GivesWhere}
use Rattle.lh_region_places.proofs.PlaceLists.{same-length, with-same}
use Rattle.lh_region_walk.proofs.GivingWhere.{gives-told}
use Rattle.lh_region_walk.proofs.lines.give_value.Goals as goal

pub returns-clause-same : goal.returns-clause-same
returns-clause-same c =
    let ps = c.args.places.now.items in let qs = c.value_at.new.places.items in let rs = c.give.new.places.items in
    on_ok_weaker {P = IsWithAt qs c.args.at c.args.to c.in_ok-term.term rs} {Q = SamePlaces ps rs} c.give.result (λ w. with-same qs rs c.args.to c.args.at c.in_ok-term.term w ∙ c.in_ok-term.ensures.same)
    c.give.ensures.with_term

pub returns-clause-gives : goal.returns-clause-gives
returns-clause-gives c =
    let ns = c.args.terms.now in let ms = c.value_at.new.terms in let ps = c.args.places.now.items in let qs = c.value_at.new.places.items in let rs = c.give.new.places.items in
    on_ok_weaker {P = GivesTerm qs c.args.at c.args.to c.in_ok-term.term rs} {Q = GivesWhere (IsToldOf c.args.at c.args.of) ns ps c.args.at c.args.to ms rs} c.give.result
    (gives-told ns ms ps qs rs c.args.at c.args.of c.args.to c.in_ok-term.term c.in_ok-term.ensures.same c.in_ok-term.ensures.still c.in_ok-term.ensures.term) c.give.ensures.gives

pub returns-in_err-term-clause-kept : goal.returns-in_err-term-clause-kept
returns-in_err-term-clause-kept c = c.value_at.ensures.kept

pub returns-clause-kept : goal.returns-clause-kept
returns-clause-kept c = c.value_at.ensures.kept

pub give-requires : goal.give-requires
give-requires c = subst (λ (n : ℕ). c.args.at < n) (sym (same-length c.args.places.now.items c.value_at.new.places.items c.in_ok-term.ensures.same)) c.requires.is_in
