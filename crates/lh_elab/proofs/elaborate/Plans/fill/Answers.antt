use Rattle.std.proofs.Common.{Some, ◌∙◌, arith}
use Rattle.std.proofs.lemmas.List.{length-set}
use Rattle.lh_elab.proofs.PlanTables.{plan-more}
use Rattle.lh_elab.proofs.elaborate.Plans.fill.Goals as goal

pub returns-in_ok-plan_of-clause-plans : goal.returns-in_ok-plan_of-clause-plans
returns-in_ok-plan_of-clause-plans c = record {
  long = length-set c.args.self.now.plans.items c.args.unit.0 (Some c.in_ok-plan_of.field-0) ∙ c.requires.plans.long;
  right = plan-more c.args.m.now c.args.self.now.plans.items c.args.unit.0 c.in_ok-plan_of.field-0 (omega (arith, c.requires.unit, c.requires.plans.long)) c.requires.plans.right
      c.in_ok-plan_of.ensures;
}
