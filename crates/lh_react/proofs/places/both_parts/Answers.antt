use Rattle.lh_react.proofs.ProbedBits.{are-same-at}
use Rattle.lh_react.proofs.places.both_parts.Goals as goal

pub returns : goal.returns
returns c =
    are-same-at c.args.m.now c.args.unit.0 c.args.args.now c.args.operands.now c.index-operands-0.result c.index-operands-1.result c.in-Some.left
    c.in-Some-probed_part.right c.if-operands-ne2.false c.in-Some.ensures c.in-Some-probed_part.ensures c.if-left-right.false
