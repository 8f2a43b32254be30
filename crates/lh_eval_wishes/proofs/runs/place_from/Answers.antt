use Rattle.std.proofs.Common.{◌≡◌, ◌<◌, length, true, arith, rules}
use Rattle.lh_types.specs.Wish.{due_bit}
use Rattle.lh_eval_wishes.proofs.RunLemmas.{above-here}
use Rattle.lh_eval_wishes.proofs.runs.place_from.Goals as goal

pub returns-else-not-is_from-clause-above : goal.returns-else-not-is_from-clause-above
returns-else-not-is_from-clause-above c =
    let h : c.loop-to.to < length c.args.runs.now = omega arith in
    let t : c.is_from.result ≡ true = search rules in
    above-here (due_bit c.args.due c.args.hi) c.args.runs.now c.loop-to.to c.index-runs-to.result c.requires.runs h c.index-runs-to.is (c.is_from.ensures t)
