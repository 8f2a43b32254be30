use Rattle.std.proofs.Common.{◌∙◌, refl, sym}
use Rattle.lh_region_places.specs.Asked.{SamePlaces}
use Rattle.lh_region_walk.specs.Lines.{IsOperationOn, GivesWhere, operation_line}
use Rattle.lh_region_walk.specs.declared.walk.Walk.{Walk}
use Rattle.lh_region_walk.specs.Walked.{WalksLine}
use Rattle.lh_region_walk.proofs.TakingLines.{table-step, is-operation, pure-next, part-next}
use Rattle.lh_region_walk.proofs.Answered.{ok-both, match-none, match-some}
use Rattle.lh_region_walk.proofs.walk.Walk.take_operation.Goals as goal

pub returns-then-is_some-clause-taken : goal.returns-then-is_some-clause-taken
returns-then-is_some-clause-taken c = λ f name before h insts b done rest m i.
    let z = match-some c.step.result _ _ c.step.ensures (sym c.is_some.ensures ∙ c.if-is_some.true) in
    let t = table-step c.args.terms.now f name c.args.region.now c.args.self.now c.args.at before h insts b done rest m (operation_line c.args.to c.args.op c.args.args.now) i c.args.op c.args.args.now
    c.args.to refl refl c.requires.below in
    part-next c.args.terms.now f name c.args.region.now c.args.self.now c.args.at before h insts b done rest m (operation_line c.args.to c.args.op c.args.args.now) i c.args.op c.args.args.now
    c.args.to _ refl refl (sym t ∙ z.1)

pub give_operation-requires-clause-operation : goal.give_operation-requires-clause-operation
give_operation-requires-clause-operation c =
    let z = match-none c.step.result _ _ c.step.ensures (sym c.is_some.ensures ∙ c.if-is_some.false) in
    let t = table-step c.args.terms.now c.requires.naming c.requires.name c.args.region.now c.args.self.now c.args.at c.requires.before c.requires.here c.requires.insts c.requires.block
    c.requires.done c.requires.rest c.requires.midst (operation_line c.args.to c.args.op c.args.args.now) c.requires.between c.args.op c.args.args.now c.args.to refl refl c.requires.below in
    is-operation c.args.terms.now c.requires.naming c.requires.name c.args.region.now c.args.self.now c.args.at c.requires.before c.requires.here c.requires.insts c.requires.block c.requires.done
    c.requires.rest c.requires.midst (operation_line c.args.to c.args.op c.args.args.now) c.requires.between c.args.op c.args.args.now c.args.to refl refl c.requires.below (sym t ∙ z)

pub returns-clause-taken : goal.returns-clause-taken
returns-clause-taken c =
    let z = match-none c.step.result _ _ c.step.ensures (sym c.is_some.ensures ∙ c.if-is_some.false) in
    let q : Walk = record { places = c.give_operation.new.places; ahead = c.args.self.now.ahead; insts = c.args.self.now.insts; rows = c.args.self.now.rows; sources = c.args.self.now.sources } in
    ok-both c.give_operation.result (SamePlaces c.args.self.now.places.items c.give_operation.new.places.items)
    (GivesWhere (IsOperationOn c.args.at.place c.args.op c.args.args.now) c.args.terms.now c.args.self.now.places.items c.args.at.place c.args.to.0 c.give_operation.new.terms
    c.give_operation.new.places.items)
    (WalksLine c.args.terms.now c.args.region.now c.args.self.now c.args.at (operation_line c.args.to c.args.op c.args.args.now) c.give_operation.new.terms q)
    (λ same gives f name before h insts b done rest m i.
    let t = table-step c.args.terms.now f name c.args.region.now c.args.self.now c.args.at before h insts b done rest m (operation_line c.args.to c.args.op c.args.args.now) i c.args.op c.args.args.now
    c.args.to refl refl c.requires.below in
    pure-next c.args.terms.now f name c.args.region.now c.args.self.now c.args.at before h insts b done rest m (operation_line c.args.to c.args.op c.args.args.now) i c.give_operation.new.terms q
    c.args.op c.args.args.now c.args.to refl refl c.requires.below (sym t ∙ z) c.give_operation.ensures.kept (record { ahead = refl; counted = refl; sources = refl }) refl same gives)
    c.give_operation.ensures.same c.give_operation.ensures.gives
