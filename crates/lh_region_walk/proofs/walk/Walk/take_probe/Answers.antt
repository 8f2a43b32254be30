use Rattle.std.proofs.Common.{◌∙◌, ap, refl, sym, subst}
use Rattle.std.specs.Option.{is_some}
use Rattle.lh_types.specs.Types.{IsData}
use Rattle.lh_term.specs.declared.part.Part.{Part}
use Rattle.std.proofs.lemmas.Option.{same_Some}
use Rattle.lh_region_places.specs.Asked.{IsWithAt}
use Rattle.lh_region.specs.Effects.{probed}
use Rattle.lh_region.specs.Gives.{GivesTerm}
use Rattle.lh_region_walk.specs.declared.walk.Walk.{Walk}
use Rattle.lh_region_walk.specs.Walked.{WalksLine}
use Rattle.lh_region_places.proofs.PlaceLists.{with-same}
use Rattle.lh_region_joins.proofs.Conditions.{grows-none}
use Rattle.lh_region_walk.proofs.GivingWhere.{gives-that}
use Rattle.lh_region_walk.proofs.TakingLines.{probed-part, prb-next, prb-none}
use Rattle.lh_region_walk.proofs.Answered.{ok-both}
use Rattle.lh_region_walk.proofs.walk.Walk.take_probe.Goals as goal

pub part_of-requires-clause-there : goal.part_of-requires-clause-there
part_of-requires-clause-there c = ap is_some
    (probed-part c.args.terms.now c.requires.can.naming c.requires.can.name c.args.region.now c.args.self.now c.args.at c.requires.can.before c.requires.can.here c.requires.can.insts
    c.requires.can.block c.requires.can.done c.requires.can.rest c.requires.can.midst c.args.line.now c.requires.can.between c.in-Prb.signal c.in-Prb.is c.requires.can.below).is

pub probe-requires : goal.probe-requires
probe-requires c =
    let z = probed-part c.args.terms.now c.requires.can.naming c.requires.can.name c.args.region.now c.args.self.now c.args.at c.requires.can.before c.requires.can.here c.requires.can.insts
    c.requires.can.block c.requires.can.done c.requires.can.rest c.requires.can.midst c.args.line.now c.requires.can.between c.in-Prb.signal c.in-Prb.is c.requires.can.below in
    subst (λ (p : Part). IsData p.ty) (same_Some z.part c.in_ok-part.part (sym z.is ∙ c.in_ok-part.ensures)) z.carries

pub returns-in-Some-clause-taken : goal.returns-in-Some-clause-taken
returns-in-Some-clause-taken c =
    let ns = c.args.terms.now in let ms = c.probe.new.terms in let ps = c.args.self.now.places.items in let qs = c.give.new.places.items in
    let q : Walk = record { places = c.give.new.places; ahead = c.args.self.now.ahead; insts = c.args.self.now.insts; rows = c.probe.new.rows; sources = c.args.self.now.sources } in
    ok-both c.give.result (IsWithAt ps c.args.at.place c.in-Some.result.0 c.in_ok-term.term qs) (GivesTerm ps c.args.at.place c.in-Some.result.0 c.in_ok-term.term qs)
    (WalksLine c.args.terms.now c.args.region.now c.args.self.now c.args.at c.args.line.now ms q)
    (λ with gives f name before h insts b done rest m i.
    prb-next c.args.terms.now f name c.args.region.now c.args.self.now c.args.at before h insts b done rest m c.args.line.now i ms q c.in-Prb.signal c.in-Some.result c.in_ok-part.part c.in-Prb.is
    c.in-Some.is c.requires.can.below c.in_ok-part.ensures c.probe.ensures.kept (record { ahead = refl; counted = refl; sources = refl })
    (with-same ps qs c.in-Some.result.0 c.args.at.place c.in_ok-term.term with)
    (gives-that ns ms ps qs c.args.at.place c.in-Some.result.0 c.in_ok-term.term (probed c.args.region.now.is_past c.in_ok-part.part) c.probe.ensures.kept c.in_ok-term.ensures.made gives)
    c.in_ok-term.ensures.rows)
    c.give.ensures.with_term c.give.ensures.gives

pub returns-in-None-clause-taken : goal.returns-in-None-clause-taken
returns-in-None-clause-taken c = λ f name before h insts b done rest m i.
    let q : Walk = record { places = c.args.self.now.places; ahead = c.args.self.now.ahead; insts = c.args.self.now.insts; rows = c.probe.new.rows; sources = c.args.self.now.sources } in
    prb-none c.args.terms.now f name c.args.region.now c.args.self.now c.args.at before h insts b done rest m c.args.line.now i c.probe.new.terms q c.in-Prb.signal c.in_ok-part.part c.in-Prb.is
    c.in-None.is c.requires.can.below c.in_ok-part.ensures c.probe.ensures.kept (record { ahead = refl; counted = refl; sources = refl }) refl c.in_ok-term.ensures.rows

pub returns-in_err-part-clause-kept : goal.returns-in_err-part-clause-kept
returns-in_err-part-clause-kept c = grows-none c.args.terms.now

pub returns-in_err-term-clause-kept : goal.returns-in_err-term-clause-kept
returns-in_err-term-clause-kept c = c.probe.ensures.kept

pub returns-in-Some-clause-kept : goal.returns-in-Some-clause-kept
returns-in-Some-clause-kept c = c.probe.ensures.kept

pub returns-in-None-clause-kept : goal.returns-in-None-clause-kept
returns-in-None-clause-kept c = c.probe.ensures.kept
