use Rattle.std.proofs.Common.{◌+◌, ap}
use Rattle.lh_eval_wishes.specs.Runs.{runs_wish}
use Rattle.lh_eval_wishes.proofs.RunLemmas.{filled-push, ordered-right}
use Rattle.lh_eval_wishes.proofs.OverlaySteps.{laid, laid-before, out-below}
use Rattle.lh_eval_wishes.proofs.overlay.lay.Goals as goal

pub pass-requires-clause-runs : goal.pass-requires-clause-runs
pass-requires-clause-runs c = record {
  ordered = ordered-right (runs_wish c.args.out.now.items) (runs_wish c.args.rest.now.items) c.requires.ordered;
  filled = c.requires.rest_filled;
}

pub returns-clause-wish : goal.returns-clause-wish
returns-clause-wish c =
    laid c.args.out.now.items c.pass.new.out.items c.push.new.self.items c.args.rest.now.items c.pass.new.rest.items _ c.args.run (ap (λ x. c.args.run.lo + x) c.len.ensures) c.requires.ordered
    (out-below c.args.run (runs_wish c.args.out.now.items) c.requires.filled c.requires.behind) c.in_ok-push.ensures.items c.in_ok-pass.ensures.below c.in_ok-pass.ensures.above

pub returns-clause-before : goal.returns-clause-before
returns-clause-before c =
    λ v. λ o. laid-before c.args.out.now.items c.pass.new.out.items c.push.new.self.items c.args.rest.now.items c.args.run v c.requires.filled c.requires.ordered c.in_ok-push.ensures.items
    c.in_ok-pass.ensures.below o

pub returns-clause-out_filled : goal.returns-clause-out_filled
returns-clause-out_filled c =
    filled-push c.pass.new.out.items c.push.new.self.items c.args.run c.in_ok-push.ensures.items c.requires.filled (c.in_ok-pass.ensures.out_filled c.requires.out_filled)
