use Rattle.std.proofs.Common.{◌≡◌, rules, arith}
use Rattle.std.specs.declared.cmp.Ordering.TheVariants.{Less, Equal}
use Rattle.std.proofs.lemmas.Bool.Decides.{nat_tests}
use Rattle.lh_time.specs.Order.{instant_cmp}
use Rattle.lh_eval_wishes.proofs.RunLemmas.{earlier, lower}
use Rattle.lh_eval_wishes.proofs.run.WishRun.is_below.Goals as goal

pub returns-in-Less : goal.returns-in-Less
returns-in-Less c =
    let h : instant_cmp c.args.self.now.due c.args.due ≡ Less = search rules in
    λ _. earlier c.args.self.now.due c.args.due c.args.self.now.lo c.args.lo c.args.self.now.bits h

pub returns-then-self-lo : goal.returns-then-self-lo
returns-then-self-lo c =
    let h : instant_cmp c.args.self.now.due c.args.due ≡ Equal = search rules in
    λ t. lower c.args.self.now.due c.args.due c.args.self.now.lo c.args.lo c.args.self.now.bits h (grind (arith, nat_tests, t, c.if-self-lo.true, c.len.ensures))
