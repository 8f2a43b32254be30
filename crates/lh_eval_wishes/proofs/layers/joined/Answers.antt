use Rattle.std.proofs.Common.{◌≡◌, [], arith}
use Rattle.std.proofs.lemmas.Grind.{common_steps}
use Rattle.lh_eval_wishes.proofs.Over.{joined-layers, over-top}
use Rattle.lh_eval_wishes.proofs.layers.joined.Goals as goal

pub loop-below-preserved : goal.loop-below-preserved
loop-below-preserved c =
    joined-layers c.loop-below.layers.items c.pop.new.self.items c.in-Some.below c.loop-below.top c.in_ok-top.top _ c.in-Some.ensures.items c.in_ok-top.ensures c.loop-below.invariant

pub returns : goal.returns
returns c =
    let e : c.loop-below.layers.items ≡ [] = grind (arith, common_steps) in
    over-top c.loop-below.layers.items c.loop-below.top _ e c.loop-below.invariant
