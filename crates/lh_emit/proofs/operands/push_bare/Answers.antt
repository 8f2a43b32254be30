use Rattle.std.proofs.Common.{◌++◌, ◌∷◌, [], ap, ◌∙◌}
use Rattle.lh_emit.proofs.Bare.{adds-next}
use Rattle.lh_emit.proofs.operands.push_bare.Goals as goal

pub loop-left-preserved : goal.loop-left-preserved
loop-left-preserved c =
    adds-next _ _ _ c.loop-left.left.now (record { 0 = 0 }) c.loop-left.invariant c.in-len1-up.len_at_least (c.in_ok-push.ensures.ok ∙ ap (λ o. c.loop-left.operands ++ o ∷ []) c.in_ok-bare.ensures)
