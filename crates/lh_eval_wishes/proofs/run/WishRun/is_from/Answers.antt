use Rattle.std.proofs.Common.{◌≡◌, rules, arith}
use Rattle.std.specs.declared.cmp.Ordering.TheVariants.{Equal, Greater}
use Rattle.std.proofs.lemmas.Bool.Decides.{nat_tests}
use Rattle.lh_time.specs.Order.{instant_cmp}
use Rattle.lh_eval_wishes.proofs.RunLemmas.{later, higher}
use Rattle.lh_eval_wishes.proofs.run.WishRun.is_from.Goals as goal

pub returns-in-Equal : goal.returns-in-Equal
returns-in-Equal c =
    let h : instant_cmp c.args.self.now.due c.args.due ≡ Equal = search rules in
    λ t. higher c.args.self.now.due c.args.due c.args.self.now.lo c.args.hi c.args.self.now.bits h (grind (arith, nat_tests, t))

pub returns-in-Greater : goal.returns-in-Greater
returns-in-Greater c =
    let h : instant_cmp c.args.self.now.due c.args.due ≡ Greater = search rules in
    λ _. later c.args.self.now.due c.args.due c.args.self.now.lo c.args.hi c.args.self.now.bits h
