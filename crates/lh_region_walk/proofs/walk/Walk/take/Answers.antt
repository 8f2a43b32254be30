use Rattle.std.proofs.Common.{refl}
use Rattle.lh_region_places.specs.Asked.{SamePlaces}
use Rattle.lh_region.specs.Taken.{asks_at, StillToldAll}
use Rattle.lh_region.specs.Effects.{AreAsserted}
use Rattle.lh_region_walk.specs.Lines.{IsToldOf, GivesWhere}
use Rattle.lh_region_walk.specs.declared.walk.Walk.{Walk}
use Rattle.lh_region_walk.specs.Walked.{WalksLine}
use Rattle.lh_region_walk.proofs.TakingLines.{can-ask, st-told, st-next, assert-told, can-assert, assert-next}
use Rattle.lh_region_walk.proofs.Answered.{ok-both, ok-three}
use Rattle.lh_region_walk.proofs.walk.Walk.take.Goals as goal

pub give_value-requires-clause-told : goal.give_value-requires-clause-told
give_value-requires-clause-told c =
    let z = st-told c.args.terms.now c.requires.can.naming c.requires.can.name c.args.region.now c.args.self.now c.args.at c.requires.can.before c.requires.can.here c.requires.can.insts
    c.requires.can.block c.requires.can.done c.requires.can.rest c.requires.can.midst c.args.line.now c.requires.can.between c.in-St.to c.in-St.value c.in-St.is c.requires.can.below in
    can-ask c.args.terms.now c.requires.can.naming c.requires.can.name c.args.region.now c.args.self.now c.args.at c.requires.can.before c.requires.can.here c.requires.can.insts c.requires.can.block
    c.requires.can.done c.requires.can.rest c.requires.can.midst c.args.line.now c.requires.can.between c.in-St.value.0 z.0 z.2

pub assert_at-requires : goal.assert_at-requires
assert_at-requires c = can-assert c.args.terms.now c.requires.can.naming c.requires.can.name c.args.region.now c.args.self.now c.args.at c.requires.can.before c.requires.can.here c.requires.can.insts
    c.requires.can.block c.requires.can.done c.requires.can.rest c.requires.can.midst c.args.line.now c.requires.can.between c.in-Call.args
    (assert-told c.args.terms.now c.requires.can.naming c.requires.can.name c.args.region.now c.args.self.now c.args.at c.requires.can.before c.requires.can.here c.requires.can.insts
    c.requires.can.block c.requires.can.done c.requires.can.rest c.requires.can.midst c.args.line.now c.requires.can.between _ _ c.in-Call.args c.in-Call.is c.requires.can.below)

pub returns-in-St-clause-taken : goal.returns-in-St-clause-taken
returns-in-St-clause-taken c =
    let q : Walk = record { places = c.give_value.new.places; ahead = c.args.self.now.ahead; insts = c.args.self.now.insts; rows = c.args.self.now.rows; sources = c.args.self.now.sources } in
    ok-both c.give_value.result (SamePlaces c.args.self.now.places.items c.give_value.new.places.items)
    (GivesWhere (IsToldOf c.args.at.place c.in-St.value.0) c.args.terms.now c.args.self.now.places.items c.args.at.place c.in-St.to.value.0 c.give_value.new.terms c.give_value.new.places.items)
    (WalksLine c.args.terms.now c.args.region.now c.args.self.now c.args.at c.args.line.now c.give_value.new.terms q)
    (λ same gives f name before h insts b done rest m i. st-next c.args.terms.now f name c.args.region.now c.args.self.now c.args.at before h insts b done rest m c.args.line.now i
    c.give_value.new.terms q c.in-St.to c.in-St.value c.in-St.is c.requires.can.below c.give_value.ensures.kept (record { ahead = refl; counted = refl; sources = refl }) refl same gives)
    c.give_value.ensures.same c.give_value.ensures.gives

pub returns-in-Call-clause-taken : goal.returns-in-Call-clause-taken
returns-in-Call-clause-taken c =
    let ns = c.args.terms.now in let ms = c.assert_at.new.terms in let ps = c.args.self.now.places.items in let qs = c.assert_at.new.places.items in
    let q : Walk = record { places = c.assert_at.new.places; ahead = c.args.self.now.ahead; insts = c.args.self.now.insts; rows = c.assert_at.new.rows; sources = c.args.self.now.sources } in
    ok-three c.assert_at.result (SamePlaces ps qs) (StillToldAll ns ps ms qs (asks_at c.args.at.place c.in-Call.args))
    (AreAsserted ns ps c.args.self.now.rows ms c.assert_at.new.rows c.args.at.place c.in-Call.args)
    (WalksLine c.args.terms.now c.args.region.now c.args.self.now c.args.at c.args.line.now ms q)
    (λ same still rows f name before h insts b done rest m i. assert-next c.args.terms.now f name c.args.region.now c.args.self.now c.args.at before h insts b done rest m c.args.line.now i ms q _ _
    c.in-Call.args c.in-Call.is c.requires.can.below c.assert_at.ensures.kept (record { ahead = refl; counted = refl; sources = refl }) same still rows)
    c.assert_at.ensures.same c.assert_at.ensures.still c.assert_at.ensures.rows

pub returns-in-St-clause-kept : goal.returns-in-St-clause-kept
returns-in-St-clause-kept c = c.give_value.ensures.kept

pub returns-in-Call-clause-kept : goal.returns-in-Call-clause-kept
returns-in-Call-clause-kept c = c.assert_at.ensures.kept

pub returns-in-Prb-clause-kept : goal.returns-in-Prb-clause-kept
returns-in-Prb-clause-kept c = c.take_probe.ensures.kept

pub returns-in-Drv-clause-kept : goal.returns-in-Drv-clause-kept
returns-in-Drv-clause-kept c = c.take_drive.ensures.kept

pub returns-in_default-clause-kept : goal.returns-in_default-clause-kept
returns-in_default-clause-kept c = c.take_given.ensures.kept
