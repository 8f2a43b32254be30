use Rattle.std.proofs.Common.{List, length, ap, ◌∙◌}
use Rattle.lh_kernel.specs.declared.run.Activation.{Activation}
use Rattle.lh_kernel.specs.Puts.{wishes_ran}
use Rattle.lh_kernel.specs.Ran.{outcomes_ran}
use Rattle.lh_kernel.proofs.LookedBits.{moves_fit, moves_as}
use Rattle.lh_kernel.proofs.plan.plan_ran.Goals as goal

pub moves_of-requires-clause-fit : goal.moves_of-requires-clause-fit
moves_of-requires-clause-fit c =
    moves_fit c.args.x.now c.args.at c.args.touched.now c.args.ran.acts.items c.requires.looked c.requires.sound c.deref-3.result.now c.deref-4.result.now c.deref-5.result.now
    c.deref-3.ensures.value c.deref-4.ensures.value c.deref-5.ensures.value

pub returns-clause-planned : goal.returns-clause-planned
returns-clause-planned c = record {
  at = c.in_ok-frame.ensures.0;
  changes = c.in_ok-frame.ensures.1;
  outcomes = c.in_ok-frame.ensures.2 ∙ ap outcomes_ran c.deref-2.ensures.value;
  ran = c.requires.ran;
  sound = c.requires.sound;
  moves = moves_as c.args.x.now.design.signals.items c.deref-3.result.now c.args.x.now.probes.items c.deref-4.result.now c.args.x.now.states.items
      c.deref-5.result.now c.args.ran.acts.items c.in_ok-moves.moves.items
      c.deref-3.ensures.value c.deref-4.ensures.value c.deref-5.ensures.value c.in_ok-moves.ensures.moves;
  known = c.in_ok-moves.ensures.known;
  wishes = c.in_ok-wishes.ensures c.args.at ∙ ap (λ (xs : List Activation). length (wishes_ran c.args.at xs)) c.deref.ensures.value;
}
