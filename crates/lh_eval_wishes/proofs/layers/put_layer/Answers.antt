use Rattle.lh_eval_wishes.proofs.Over.{joined-layers}
use Rattle.lh_eval_wishes.proofs.layers.put_layer.Goals as goal

pub loop-below-preserved : goal.loop-below-preserved
loop-below-preserved c =
    joined-layers c.loop-below.layers.items c.pop.new.self.items c.in-Some.below c.loop-below.top c.in_ok-top.top _ c.in-Some.ensures.items c.in_ok-top.ensures c.loop-below.invariant
