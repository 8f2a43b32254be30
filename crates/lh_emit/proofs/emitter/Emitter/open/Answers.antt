use Rattle.std.proofs.Common.{◌≡◌, ◌∙◌, ◌∷◌, sym, subst, ap, true, false, is_some}
use Rattle.lh_emit.specs.Making.{AreOperandTerms}
use Rattle.lh_emit.specs.Underway.{tops}
use Rattle.lh_emit.specs.Values.{value_in}
use Rattle.lh_emit.specs.declared.tasks.Task.TheVariants.{Need}
use Rattle.lh_region_joins.proofs.Conditions.{grows-none}
use Rattle.lh_emit.proofs.TaskSteps.{go-there, go-open, go-no-memory, go-cause, goes-not-open, need-in}
use Rattle.lh_emit.proofs.emitter.Emitter.open.Goals as goal

pub returns-then-is_some-clause-gone : goal.returns-then-is_some-clause-gone
returns-then-is_some-clause-gone c =
    let q : is_some (value_in c.args.self.now.values c.args.t) ≡ true = cc in
    go-there c.args.terms.now c.args.origin.now c.args.self.now c.args.t (tops c.args.tasks.now.items) c.requires q

pub returns-clause-gone : goal.returns-clause-gone
returns-clause-gone c =
    let q : is_some (value_in c.args.self.now.values c.args.t) ≡ false = cc in
    go-open c.args.terms.now c.args.origin.now c.args.self.now c.args.t (tops c.args.tasks.now.items) (tops c.push.new.tasks.items) (tops c.push_needs.new.tasks.items) c.made_of.new.terms
    c.as_slice.result.now c.requires q
    c.made_of.ensures.kept c.are_apart.ensures (subst (AreOperandTerms c.args.terms.now c.made_of.new.terms c.args.t) (sym c.as_slice.ensures) c.in_ok-of.ensures.made) c.in_ok-push.ensures
    c.in_ok-push_needs.ensures

pub returns-in_err-push-clause-gone : goal.returns-in_err-push-clause-gone
returns-in_err-push-clause-gone c =
    go-no-memory c.args.terms.now c.args.origin.now c.args.self.now (Need c.args.t ∷ tops c.args.tasks.now.items) c.args.terms.now c.args.self.now (tops c.push.new.tasks.items) c.from_residual.result
    c.from_residual.ensures.1

pub made_of-requires : goal.made_of-requires
made_of-requires c = need-in c.args.terms.now c.args.origin.now c.args.self.now c.args.t (tops c.args.tasks.now.items) c.requires

pub returns-in_err-of-clause-gone : goal.returns-in_err-of-clause-gone
returns-in_err-of-clause-gone c =
    go-cause c.args.terms.now c.args.origin.now c.args.self.now (Need c.args.t ∷ tops c.args.tasks.now.items) c.made_of.new.terms c.args.self.now (tops c.push.new.tasks.items)
    c.from_residual-in_err-of.result c.in_err-of.field-0.0 c.from_residual-in_err-of.ensures.1
    (goes-not-open c.args.terms.now c.args.origin.now c.args.self.now c.args.t (tops c.args.tasks.now.items) c.in_err-of.field-0.0 c.in_err-of.ensures.cause)

pub returns-in_err-push_needs-clause-gone : goal.returns-in_err-push_needs-clause-gone
returns-in_err-push_needs-clause-gone c =
    go-no-memory c.args.terms.now c.args.origin.now c.args.self.now (Need c.args.t ∷ tops c.args.tasks.now.items) c.made_of.new.terms c.args.self.now (tops c.push_needs.new.tasks.items)
    c.from_residual-in_err-push_needs.result c.from_residual-in_err-push_needs.ensures.1

pub returns-then-is_some-clause-kept : goal.returns-then-is_some-clause-kept
returns-then-is_some-clause-kept c = grows-none c.args.terms.now

pub returns-in_err-push-clause-kept : goal.returns-in_err-push-clause-kept
returns-in_err-push-clause-kept c = grows-none c.args.terms.now

pub returns-in_err-of-clause-kept : goal.returns-in_err-of-clause-kept
returns-in_err-of-clause-kept c = c.made_of.ensures.kept

pub returns-in_err-push_needs-clause-kept : goal.returns-in_err-push_needs-clause-kept
returns-in_err-push_needs-clause-kept c = c.made_of.ensures.kept

pub returns-clause-kept : goal.returns-clause-kept
returns-clause-kept c = c.made_of.ensures.kept
