use Rattle.std.proofs.Common.{◌∙◌, List, [], ◌∷◌, ◌++◌, set, Option, ap, subst, sym}
use Rattle.lh_unit.specs.declared.inst.ValueId.{ValueId}
use Rattle.lh_flat_parts.specs.declared.step.PartStep.{PartStep}
use Rattle.lh_flat_parts.specs.Resolving.{Steppable, part_by_step}
use Rattle.lh_flat_parts.specs.Steps.{step_at}
use Rattle.lh_flat_parts.proofs.StepPaths.{Forth-next}
use Rattle.lh_flat_parts.proofs.resolve.Resolver.go_forth.Goals as goal

pub part_of-requires-clause-found : goal.part_of-requires-clause-found
part_of-requires-clause-found c =
    let i = c.loop-value.invariant in
    subst (λ (s : List (Option PartStep)). Steppable s c.loop-value.self.parts.items) (sym i.steps) i.forth.found

pub loop-value-preserved : goal.loop-value-preserved
loop-value-preserved c =
    let i = c.loop-value.invariant in
    record {
      steps = c.put.ensures.steps ∙ i.steps;
      met = c.put.ensures.met ∙ i.met;
      forth =
          Forth-next _ _ c.loop-value.self.parts.items c.put.new.self.parts.items _ c.loop-value.self.way.items c.put.new.self.way.items c.in-Some.value
          (c.in-Some.ensures.items ∙ ap (λ (x : List ValueId). x ++ c.in-Some.value ∷ []) (sym c.put.ensures.way))
          (c.put.ensures.parts ∙ ap (set c.loop-value.self.parts.items c.in-Some.value.0) (c.in_ok-part.ensures
          ∙ ap (λ (ss : List (Option PartStep)). part_by_step c.loop-value.self.parts.items (step_at ss c.in-Some.value.0)) i.steps))
          i.forth;
    }
