use Rattle.std.proofs.Common.{rules, arith}
use Rattle.lh_eval_wishes.proofs.RunLemmas.{high-less, high-equal, high-from, higher, later}
use Rattle.lh_eval_wishes.proofs.run.WishRun.high_part.Goals as goal
use Rattle.lh_eval_wishes.proofs.run.WishRun.high_part.Goals.{in-Less, in-Equal+then-self-hi, in-Equal+else-self-hi, in-Greater}

pub returns : goal.returns
returns c = elim c.match-cmp.branch [
  | in-Less w ↦ high-less c.args.self.now.due c.args.due c.args.self.now.lo c.args.hi c.match-cmp.lo.0 c.match-cmp.lo.1 c.args.self.now.bits c.in_ok-bits.bits (search rules) (search rules)
      (search rules)
  | in-Equal+then-self-hi w ↦ high-equal c.args.self.now.due c.args.due c.args.self.now.lo c.args.hi c.match-cmp.lo.0 c.match-cmp.lo.1 c.args.self.now.bits c.in_ok-bits.bits (search rules)
      (omega arith) (search rules) (search rules) (search rules)
  | in-Equal+else-self-hi w ↦ high-from c.args.self.now.due c.args.due c.args.self.now.lo c.args.hi c.match-cmp.lo.0 c.match-cmp.lo.1 c.args.self.now.bits c.in_ok-bits.bits
      (higher c.args.self.now.due c.args.due c.args.self.now.lo c.args.hi c.args.self.now.bits (search rules) (omega arith)) (search rules) (search rules) (search rules)
  | in-Greater w ↦ high-from c.args.self.now.due c.args.due c.args.self.now.lo c.args.hi c.match-cmp.lo.0 c.match-cmp.lo.1 c.args.self.now.bits c.in_ok-bits.bits
      (later c.args.self.now.due c.args.due c.args.self.now.lo c.args.hi c.args.self.now.bits (search rules)) (search rules) (search rules) (search rules)
]
