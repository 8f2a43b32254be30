use Rattle.lh_types.specs.Wish.{due_bit}
use Rattle.lh_eval_wishes.proofs.RunLemmas.{filled-push}
use Rattle.lh_eval_wishes.proofs.OverlaySteps.{later-runs, all-from, below-moved, above-moved}
use Rattle.lh_eval_wishes.proofs.overlay.pass_first.Goals as goal

pub returns-then-is_from-clause-last : goal.returns-then-is_from-clause-last
returns-then-is_from-clause-last c =
    λ p. all-from (due_bit c.args.due c.args.hi) c.args.first c.args.rest.now.items c.push_front.new.self.items c.in_ok-push_front.ensures.items c.requires.runs
    (c.is_from.ensures c.if-is_from.true)

pub returns-then-is_below-clause-below : goal.returns-then-is_below-clause-below
returns-then-is_below-clause-below c =
    below-moved (due_bit c.args.due c.args.lo) c.args.out.now.items c.push.new.self.items c.args.rest.now.items c.args.first c.in_ok-push.ensures.items (c.is_below.ensures c.if-is_below.true)

pub returns-then-is_below-clause-above : goal.returns-then-is_below-clause-above
returns-then-is_below-clause-above c =
    above-moved c.args.due c.args.lo c.args.hi c.args.first c.args.rest.now.items c.requires.rising (c.is_below.ensures c.if-is_below.true)

pub returns-then-is_below-clause-out_filled : goal.returns-then-is_below-clause-out_filled
returns-then-is_below-clause-out_filled c = λ f. filled-push c.args.out.now.items c.push.new.self.items c.args.first c.in_ok-push.ensures.items c.requires.runs.filled.0 f

pub returns-then-is_below-clause-runs : goal.returns-then-is_below-clause-runs
returns-then-is_below-clause-runs c = later-runs c.args.first c.args.rest.now.items c.requires.runs
