use Rattle.std.proofs.Common.{rules}
use Rattle.lh_eval_wishes.proofs.RunLemmas.{low-less, low-equal, low-greater}
use Rattle.lh_eval_wishes.proofs.run.WishRun.low_part.Goals as goal
use Rattle.lh_eval_wishes.proofs.run.WishRun.low_part.Goals.{in-Less, in-Equal, in-Greater}

pub returns : goal.returns
returns c = elim c.match-cmp.branch [
  | in-Less w ↦ low-less c.args.self.now.due c.args.due c.args.self.now.lo c.args.lo c.match-cmp.n c.args.self.now.bits c.in_ok-bits.bits (search rules) (search rules) (search rules)
  | in-Equal w ↦ low-equal c.args.self.now.due c.args.due c.args.self.now.lo c.args.lo c.match-cmp.n c.args.self.now.bits c.in_ok-bits.bits (search rules) (search rules) (search rules)
  | in-Greater w ↦ low-greater c.args.self.now.due c.args.due c.args.self.now.lo c.args.lo c.match-cmp.n c.args.self.now.bits c.in_ok-bits.bits (search rules) (search rules) (search rules)
]
