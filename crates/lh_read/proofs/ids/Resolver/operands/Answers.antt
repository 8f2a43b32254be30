use Rattle.lh_read_phrases.specs.SyntaxOf.{operand_of}
use Rattle.lh_read.proofs.Lists.{operands-keep, next-taken}
use Rattle.lh_read.proofs.ids.Resolver.operands.Goals as goal

pub loop-one-preserved : goal.loop-one-preserved
loop-one-preserved c = (
  tt,
  tt,
  next-taken operands-keep operand_of c.args.self.now.module c.loop-one.self.module c.operand.new.self.module c.args.unit c.loop-one.to c.push.new.self c.in_ok-placed.placed c.in-Some.one
      c.loop-one.one-iterator c.next.new.self c.args.from c.loop-one.invariant.2 c.in-Some.ensures.steps c.in_ok-placed.ensures c.in_ok-push.ensures.ok,
)
