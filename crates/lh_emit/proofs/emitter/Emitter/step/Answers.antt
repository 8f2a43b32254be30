use Rattle.std.proofs.Common.{◌≡◌, ◌∷◌, sym, subst}
use Rattle.lh_emit.specs.Underway.{CanGo, GoesOr, tops}
use Rattle.lh_emit.specs.declared.tasks.Task.{Task}
use Rattle.lh_emit.proofs.TaskSteps.{can-make, go-make}
use Rattle.lh_emit.proofs.emitter.Emitter.step.Goals as goal

pub open-requires : goal.open-requires
open-requires c = subst (λ (k : Task). CanGo c.args.terms.now c.args.origin.now c.args.self.now (k ∷ tops c.args.tasks.now.items)) c.in-Need.is c.requires

pub make-requires : goal.make-requires
make-requires c =
    can-make c.args.terms.now c.args.origin.now c.args.self.now c.in-Make.t (tops c.args.tasks.now.items)
    (subst (λ (k : Task). CanGo c.args.terms.now c.args.origin.now c.args.self.now (k ∷ tops c.args.tasks.now.items)) c.in-Make.is c.requires)

pub returns-in-Need-clause-gone : goal.returns-in-Need-clause-gone
returns-in-Need-clause-gone c =
    subst (λ (k : Task). GoesOr c.args.terms.now c.args.origin.now c.args.self.now (k ∷ tops c.args.tasks.now.items) c.open.new.terms c.args.self.now (tops c.open.new.tasks.items) c.open.result)
    (sym c.in-Need.is) c.open.ensures.gone

pub returns-in-Make-clause-gone : goal.returns-in-Make-clause-gone
returns-in-Make-clause-gone c =
    subst (λ (k : Task). GoesOr c.args.terms.now c.args.origin.now c.args.self.now (k ∷ tops c.args.tasks.now.items) c.make.new.terms c.make.new.self (tops c.args.tasks.now.items) c.make.result)
    (sym c.in-Make.is)
    (go-make c.args.terms.now c.args.origin.now c.args.self.now c.in-Make.t (tops c.args.tasks.now.items) c.make.new.terms c.make.new.self c.make.result
    (subst (λ (k : Task). CanGo c.args.terms.now c.args.origin.now c.args.self.now (k ∷ tops c.args.tasks.now.items)) c.in-Make.is c.requires) c.make.ensures.kept c.make.ensures.made)
