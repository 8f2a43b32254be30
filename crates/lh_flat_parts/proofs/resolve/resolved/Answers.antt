use Rattle.std.proofs.Common.{◌<◌, ◌∙◌, ℕ, List, Bool, length, arith, subst, sym, ap}
use Rattle.lh_flat_parts.proofs.Resolved.{follows-in, SoFar, SoFar-none, SoFar-next, SoFar-end, SoFar-in_place, SoFar-steppable}
use Rattle.lh_flat_parts.proofs.resolve.resolved.Goals as goal

pub loop-value-init : goal.loop-value-init
loop-value-init c = record {
  steps = c.as_slice.ensures.value;
  empty = c.new.ensures.items;
  so_far =
      subst (λ (m : List Bool). SoFar c.args.steps.now.given.items c.args.parts.items c.args.parts.items m 0) (sym c.in_ok-not_met.ensures)
      (SoFar-none c.args.steps.now.given.items c.args.parts.items c.args.values (sym c.requires.all) c.requires.in_place c.requires.apart);
}

pub follow-requires-clause-is_in : goal.follow-requires-clause-is_in
follow-requires-clause-is_in c = subst (λ (n : ℕ). c.loop-value.value < n) (sym (ap length c.loop-value.invariant.steps ∙ c.requires.all)) c.loop-value-test.true

pub follow-requires-clause-in_place : goal.follow-requires-clause-in_place
follow-requires-clause-in_place c = SoFar-in_place _ _ _ _ _ _ c.loop-value.invariant.steps c.requires.in_place c.loop-value.invariant.so_far

pub follow-requires-clause-found : goal.follow-requires-clause-found
follow-requires-clause-found c = SoFar-steppable _ _ _ _ _ _ c.loop-value.invariant.steps c.requires.can_step c.loop-value.invariant.so_far

pub follow-requires-clause-met : goal.follow-requires-clause-met
follow-requires-clause-met c = c.loop-value.invariant.so_far.settled.long_met ∙ ap length (sym c.loop-value.invariant.steps)

pub loop-value-preserved : goal.loop-value-preserved
loop-value-preserved c = record {
  steps = c.in_ok-follow.ensures.steps ∙ c.loop-value.invariant.steps;
  empty = c.in_ok-follow.ensures.empty;
  so_far = SoFar-next _ _ _ _ _ _ c.loop-value.value (follows-in _ _ c.loop-value.value _ _ _ _ c.loop-value.invariant.steps c.in_ok-follow.ensures.follows) c.loop-value.invariant.so_far;
}

pub returns : goal.returns
returns c = SoFar-end _ _ _ _ c.loop-value.value (omega (arith, c.requires.all, c.loop-value-test.false, c.loop-value.auto.value-end)) c.loop-value.invariant.so_far
