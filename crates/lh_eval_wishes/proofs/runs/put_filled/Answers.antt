use Rattle.std.proofs.Common.{◌≡◌, length, rules}
use Rattle.lh_eval_wishes.proofs.RunLemmas.{runs-push, filled-push, is_filled-by}
use Rattle.lh_eval_wishes.proofs.runs.put_filled.Goals as goal

pub returns-clause-wish : goal.returns-clause-wish
returns-clause-wish c = runs-push c.args.runs.now.items c.push.new.self.items c.args.run c.in_ok-push.ensures.items

pub returns-clause-filled : goal.returns-clause-filled
returns-clause-filled c =
    let n : length c.args.run.bits ≡ 0 → ⊥ = search rules in
    filled-push c.args.runs.now.items c.push.new.self.items c.args.run c.in_ok-push.ensures.items (is_filled-by c.args.run.bits n)
