use Rattle.std.proofs.Common.{◌≡◌, ◌∙◌, [], ◌∷◌, List, length, refl, sym, arith}
use Rattle.lh_term.proofs.Swaps.{grows_on}
use Rattle.lh_emit.specs.declared.tasks.Task.{Task}
use Rattle.lh_region_joins.proofs.Conditions.{grows-none}
use Rattle.lh_emit.proofs.TaskSteps.{gone-first, can-step, gone-next, less-left, step-cause, nothing-left, takes-term, term-valued, term-cause, term-no-memory}
use Rattle.lh_emit.proofs.emitter.Emitter.take_term.Goals as goal

pub loop-task-init : goal.loop-task-init
loop-task-init c = gone-first c.args.terms.now c.args.origin.now c.args.self.now c.args.term c.in_ok-tasks.tasks.items c.in_ok-tasks.ensures

pub step-requires : goal.step-requires
step-requires c =
    can-step c.args.terms.now c.args.origin.now c.args.self.now c.args.term c.loop-task.terms c.loop-task.self c.loop-task.tasks.items c.pop.new.self.items c.in-Some.task c.in-Some.ensures.items
    c.loop-task.invariant c.requires

pub loop-task-preserved : goal.loop-task-preserved
loop-task-preserved c =
    gone-next c.args.terms.now c.args.origin.now c.args.self.now c.args.term c.loop-task.terms c.loop-task.self c.loop-task.tasks.items c.pop.new.self.items c.in-Some.task c.in-Some.ensures.items
    c.loop-task.invariant
    c.step.new.terms c.step.new.self c.step.new.tasks.items c.step.ensures.kept c.in_ok-step.ensures.gone

pub loop-task-smaller : goal.loop-task-smaller
loop-task-smaller c =
    less-left c.args.terms.now c.args.origin.now c.args.self.now c.args.term c.loop-task.terms c.loop-task.self c.loop-task.tasks.items c.pop.new.self.items c.in-Some.task c.in-Some.ensures.items
    c.loop-task.invariant
    c.step.new.terms c.step.new.self c.step.new.tasks.items c.in_ok-step.ensures.gone

none-left : (xs : List Task) → length xs ≡ 0 → xs ≡ []
none-left [] e = refl
none-left (x ∷ xs) e = absurd (omega (arith, e))

pub value_of-requires : goal.value_of-requires
value_of-requires c =
    let e : c.loop-task.tasks.items ≡ [] = none-left c.loop-task.tasks.items (sym c.loop-task.tasks.ok.0 ∙ c.in_default.ensures.cases.0) in
    term-valued c.args.terms.now c.args.origin.now c.args.self.now c.args.term c.loop-task.terms c.loop-task.self c.requires c.loop-task.invariant.grows
    (nothing-left c.args.terms.now c.args.origin.now c.args.self.now c.args.term c.loop-task.terms c.loop-task.self c.loop-task.tasks.items e c.loop-task.invariant)

pub returns-in_err-step-clause-taken : goal.returns-in_err-step-clause-taken
returns-in_err-step-clause-taken c =
    term-cause c.args.terms.now c.args.origin.now c.args.self.now c.args.term c.step.new.terms c.step.new.self c.from_residual-in_err-step.result c.in_err-step.field-0.0
    c.from_residual-in_err-step.ensures.1
    (step-cause c.args.terms.now c.args.origin.now c.args.self.now c.args.term c.loop-task.terms c.loop-task.self c.loop-task.tasks.items c.pop.new.self.items c.in-Some.task c.in-Some.ensures.items
    c.loop-task.invariant
    c.in_err-step.field-0.0 c.requires.within c.in_err-step.ensures.gone)

pub returns-in_err-step-clause-kept : goal.returns-in_err-step-clause-kept
returns-in_err-step-clause-kept c = grows_on c.args.terms.now c.loop-task.terms c.step.new.terms c.loop-task.invariant.grows c.step.ensures.kept

pub returns-clause-taken : goal.returns-clause-taken
returns-clause-taken c =
    let e : c.loop-task.tasks.items ≡ [] = none-left c.loop-task.tasks.items (sym c.loop-task.tasks.ok.0 ∙ c.in_default.ensures.cases.0) in
    takes-term c.args.terms.now c.args.origin.now c.args.self.now c.args.term c.loop-task.terms c.loop-task.self c.value_of.result c.requires.within c.loop-task.invariant.grows
    c.loop-task.invariant.names
    (nothing-left c.args.terms.now c.args.origin.now c.args.self.now c.args.term c.loop-task.terms c.loop-task.self c.loop-task.tasks.items e c.loop-task.invariant) c.value_of.ensures

pub returns-in_err-tasks-clause-taken : goal.returns-in_err-tasks-clause-taken
returns-in_err-tasks-clause-taken c =
    term-no-memory c.args.terms.now c.args.origin.now c.args.self.now c.args.term c.args.terms.now c.args.self.now c.from_residual.result c.from_residual.ensures.1

pub returns-in_err-tasks-clause-kept : goal.returns-in_err-tasks-clause-kept
returns-in_err-tasks-clause-kept c = grows-none c.args.terms.now

pub returns-clause-kept : goal.returns-clause-kept
returns-clause-kept c = c.loop-task.invariant.grows
