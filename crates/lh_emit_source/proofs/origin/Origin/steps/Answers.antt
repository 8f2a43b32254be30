use Rattle.std.proofs.Common.{length, refl, subst, sym}
use Rattle.std.specs.Option.{IsSome}
use Rattle.lh_emit_source.specs.Firsts.{kept_for, key_of}
use Rattle.lh_emit_source.proofs.FirstSteps.{first-some, first-met, first-missed}
use Rattle.lh_emit_source.proofs.Routes.{steps-given, none-given}
use Rattle.lh_emit_source.proofs.origin.Origin.steps.Goals as goal

pub steps_to-requires-clause-is_in : goal.steps_to-requires-clause-is_in
steps_to-requires-clause-is_in c =
    let parts = c.args.self.now.parts.now.parts.items in
    let kept = kept_for c.args.self.now.firsts c.args.part.now in
    let e = first-met parts c.first_of.result c.kept_for.result.now kept c.args.part.now c.in-Some.first c.first_of.ensures c.kept_for.ensures c.in-Some.is in
    (first-some (length parts) parts kept c.args.part.now c.in-Some.first (c.requires.firsts.within (key_of c.args.part.now)) e).0

pub steps_to-requires-clause-there : goal.steps_to-requires-clause-there
steps_to-requires-clause-there c =
    let parts = c.args.self.now.parts.now.parts.items in
    let kept = kept_for c.args.self.now.firsts c.args.part.now in
    let e = first-met parts c.first_of.result c.kept_for.result.now kept c.args.part.now c.in-Some.first c.first_of.ensures c.kept_for.ensures c.in-Some.is in
    subst IsSome (sym (first-some (length parts) parts kept c.args.part.now c.in-Some.first (c.requires.firsts.within (key_of c.args.part.now)) e).1) refl

pub returns-in-None : goal.returns-in-None
returns-in-None c =
    let x = c.args.self.now in
    none-given x c.args.part.now c.new.result
    (first-missed x.parts.now.parts.items c.first_of.result c.kept_for.result.now (kept_for x.firsts c.args.part.now) c.args.part.now c.first_of.ensures c.kept_for.ensures c.in-None.is)
    c.new.ensures

pub returns-in-Some : goal.returns-in-Some
returns-in-Some c =
    let x = c.args.self.now in
    steps-given x c.args.part.now c.in-Some.first c.steps_to.result
    (first-met x.parts.now.parts.items c.first_of.result c.kept_for.result.now (kept_for x.firsts c.args.part.now) c.args.part.now c.in-Some.first c.first_of.ensures c.kept_for.ensures c.in-Some.is)
    c.steps_to.ensures
