use Rattle.std.proofs.Common.{◌≡◌, length, rules}
use Rattle.lh_types.specs.Wish.{due_bit}
use Rattle.lh_eval_wishes.specs.Runs.{runs_wish}
use Rattle.lh_eval_wishes.proofs.RunLemmas.{is_filled-by}
use Rattle.lh_eval_wishes.proofs.OverlaySteps.{later-runs, high-from, high-runs, high-above, high-below}
use Rattle.lh_eval_wishes.proofs.overlay.cut.Goals as goal

pub returns-then-len-eq0-clause-runs : goal.returns-then-len-eq0-clause-runs
returns-then-len-eq0-clause-runs c = later-runs c.args.first.now c.args.rest.now.items c.requires.runs

pub returns-clause-below : goal.returns-clause-below
returns-clause-below c =
    let n : length c.in_ok-high.high.bits ≡ 0 → ⊥ = search rules in
    high-below c.args.due c.args.lo c.args.hi c.args.first.now c.in_ok-high.high c.in_ok-low.low (runs_wish c.args.out.now.items) (runs_wish c.put_filled.new.runs.items) c.args.rest.now.items
    c.push_front.new.self.items c.requires.rising c.in_ok-push_front.ensures.items c.requires.runs c.in_ok-high.ensures (is_filled-by c.in_ok-high.high.bits n) c.in_ok-low.ensures
    c.in_ok-put_filled.ensures.wish

pub returns-clause-above : goal.returns-clause-above
returns-clause-above c =
    high-above (due_bit c.args.due c.args.hi) c.args.first.now c.in_ok-high.high c.args.rest.now.items c.push_front.new.self.items c.in_ok-push_front.ensures.items c.in_ok-high.ensures

pub returns-clause-runs : goal.returns-clause-runs
returns-clause-runs c =
    let n : length c.in_ok-high.high.bits ≡ 0 → ⊥ = search rules in
    high-runs (due_bit c.args.due c.args.hi) c.args.first.now c.in_ok-high.high c.args.rest.now.items c.push_front.new.self.items c.in_ok-push_front.ensures.items c.requires.runs
    c.in_ok-high.ensures (is_filled-by c.in_ok-high.high.bits n)

pub returns-clause-last : goal.returns-clause-last
returns-clause-last c =
    let n : length c.in_ok-high.high.bits ≡ 0 → ⊥ = search rules in
    λ p. high-from (due_bit c.args.due c.args.hi) c.args.first.now c.in_ok-high.high c.args.rest.now.items c.push_front.new.self.items c.in_ok-push_front.ensures.items c.requires.runs
    c.in_ok-high.ensures (is_filled-by c.in_ok-high.high.bits n)
