use Rattle.std.proofs.Common.{◌<◌, subst, sym, ℕ}
use Rattle.lh_flat_parts.proofs.StepPaths.{steps-from, read-step}
use Rattle.lh_flat_parts.proofs.resolve.Resolver.part_of.Goals as goal

pub part_by-requires-clause-is_in : goal.part_by-requires-clause-is_in
part_by-requires-clause-is_in c =
    let s = c.args.self.now in let r = c.requires in
    subst (λ (k : ℕ). c.in-Some.step.from.0 < k) (sym r.in_place.long) (r.in_place.within c.args.value.0 c.in-Some.step (read-step s.steps.now c.args.value.0 _ c.in-Some.step r.is_in c.in-Some.is))

pub part_by-requires-clause-can_step : goal.part_by-requires-clause-can_step
part_by-requires-clause-can_step c =
    let s = c.args.self.now in let r = c.requires in
    steps-from s.steps.now r.found.base s.parts.items c.args.value.0 c.in-Some.step r.found.can_step r.found.found (read-step s.steps.now c.args.value.0 _ c.in-Some.step r.is_in c.in-Some.is)
