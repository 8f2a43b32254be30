use Rattle.std.proofs.Common.{refl, sym, subst}
use Rattle.std.specs.Result.{OnOk}
use Rattle.lh_term.specs.Tree.{constant}
use Rattle.lh_region_joins.proofs.Conditions.{grows-none}
use Rattle.lh_flat.specs.declared.flat.FlatInst.{FlatInst}
use Rattle.lh_region_places.specs.Asked.{SamePlaces}
use Rattle.lh_region_walk.specs.Lines.{IsThat, IsToldOf, GivesWhere}
use Rattle.lh_region_walk.specs.declared.walk.Walk.{Walk}
use Rattle.lh_region_walk.specs.Walked.{WalksLine}
use Rattle.lh_region_walk.proofs.TakingLines.{const-fits, const-next, either-told, either-next, none-next, other-next}
use Rattle.lh_region_walk.proofs.Answered.{ok-both, none-of}
use Rattle.lh_region_walk.proofs.walk.Walk.take_given.Goals as goal

pub returns-in_default-clause-taken : goal.returns-in_default-clause-taken
returns-in_default-clause-taken c = λ f name before h insts b done rest m i. none-next c.args.terms.now f name c.args.region.now c.args.self.now c.args.at before h insts b done rest m c.args.line.now
    i c.requires.alone (none-of c.args.line.now.result c.in_default.not-Some)

pub give_constant-requires-clause-fits : goal.give_constant-requires-clause-fits
give_constant-requires-clause-fits c = const-fits c.args.terms.now c.requires.can.naming c.requires.can.name c.args.region.now c.args.self.now c.args.at c.requires.can.before c.requires.can.here
    c.requires.can.insts c.requires.can.block c.requires.can.done c.requires.can.rest c.requires.can.midst c.args.line.now c.requires.can.between c.in-Const.value c.in-Some.result c.in-Const.is
    c.in-Some.is

pub give_value-requires-clause-told : goal.give_value-requires-clause-told
give_value-requires-clause-told c = either-told c.args.terms.now c.requires.can.naming c.requires.can.name c.args.region.now c.args.self.now c.args.at c.requires.can.before c.requires.can.here
    c.requires.can.insts c.requires.can.block c.requires.can.done c.requires.can.rest c.requires.can.midst c.args.line.now c.requires.can.between c.in-Var.of c.in-Var.is c.requires.can.below

pub returns-in-Const-clause-taken : goal.returns-in-Const-clause-taken
returns-in-Const-clause-taken c =
    let q : Walk = record { places = c.give_constant.new.places; ahead = c.args.self.now.ahead; insts = c.args.self.now.insts; rows = c.args.self.now.rows; sources = c.args.self.now.sources } in
    ok-both c.give_constant.result (SamePlaces c.args.self.now.places.items c.give_constant.new.places.items)
    (GivesWhere (IsThat (constant c.in-Const.value)) c.args.terms.now c.args.self.now.places.items c.args.at.place c.in-Some.result.0 c.give_constant.new.terms
    c.give_constant.new.places.items)
    (WalksLine c.args.terms.now c.args.region.now c.args.self.now c.args.at c.args.line.now c.give_constant.new.terms q)
    (λ same gives f name before h insts b done rest m i. const-next c.args.terms.now f name c.args.region.now c.args.self.now c.args.at before h insts b done rest m c.args.line.now i
    c.give_constant.new.terms q c.in-Const.value c.in-Some.result c.in-Const.is c.in-Some.is c.requires.can.below c.give_constant.ensures.kept
    (record { ahead = refl; counted = refl; sources = refl }) refl same gives)
    c.give_constant.ensures.same c.give_constant.ensures.gives

pub returns-in-Pure-clause-taken : goal.returns-in-Pure-clause-taken
returns-in-Pure-clause-taken c =
    subst (λ (x : FlatInst). OnOk c.take_operation.result (WalksLine c.args.terms.now c.args.region.now c.args.self.now c.args.at x c.take_operation.new.terms c.take_operation.new.self))
    (λ j. record { result = sym c.in-Some.is j; inst = sym c.in-Pure.is j }) c.take_operation.ensures.taken

pub returns-in_default-inst : goal.returns-in_default-inst
returns-in_default-inst c = record {
  kept = grows-none c.args.terms.now;
  taken = λ f name before h insts b done rest m i. other-next c.args.terms.now f name c.args.region.now c.args.self.now c.args.at before h insts b done rest m c.args.line.now i c.requires.alone
      c.in_default-inst.not-Const c.in_default-inst.not-Pure c.in_default-inst.not-Var c.in_default-inst.not-Ld;
}

pub returns-in-Var-clause-taken : goal.returns-in-Var-clause-taken
returns-in-Var-clause-taken c =
    let q : Walk = record { places = c.give_value.new.places; ahead = c.args.self.now.ahead; insts = c.args.self.now.insts; rows = c.args.self.now.rows; sources = c.args.self.now.sources } in
    ok-both c.give_value.result (SamePlaces c.args.self.now.places.items c.give_value.new.places.items)
    (GivesWhere (IsToldOf c.args.at.place c.in-Var.of.value.0) c.args.terms.now c.args.self.now.places.items c.args.at.place c.in-Some.result.0 c.give_value.new.terms
    c.give_value.new.places.items)
    (WalksLine c.args.terms.now c.args.region.now c.args.self.now c.args.at c.args.line.now c.give_value.new.terms q)
    (λ same gives f name before h insts b done rest m i. either-next c.args.terms.now f name c.args.region.now c.args.self.now c.args.at before h insts b done rest m c.args.line.now i
    c.give_value.new.terms q c.in-Var.of c.in-Some.result c.in-Var.is c.in-Some.is c.requires.can.below c.give_value.ensures.kept (record { ahead = refl; counted = refl; sources = refl }) refl
    same gives)
    c.give_value.ensures.same c.give_value.ensures.gives

pub returns-in_default-clause-kept : goal.returns-in_default-clause-kept
returns-in_default-clause-kept c = grows-none c.args.terms.now

pub returns-in-Const-clause-kept : goal.returns-in-Const-clause-kept
returns-in-Const-clause-kept c = c.give_constant.ensures.kept

pub returns-in-Pure-clause-kept : goal.returns-in-Pure-clause-kept
returns-in-Pure-clause-kept c = c.take_operation.ensures.kept

pub returns-in-Var-clause-kept : goal.returns-in-Var-clause-kept
returns-in-Var-clause-kept c = c.give_value.ensures.kept
