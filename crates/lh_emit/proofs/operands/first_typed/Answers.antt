use Rattle.std.proofs.Common.{◌++◌, ◌∷◌, [], ◌∙◌}
use Rattle.lh_emit.proofs.Bare.{first-added, none-added}
use Rattle.lh_emit.proofs.operands.first_typed.Goals as goal
use Rattle.lh_emit.proofs.operands.first_typed.Goals.{in_default, in-len1-up+in_ok-typed+in_ok-push+in_ok-none+in_ok-push_bare}

pub returns : goal.returns
returns c = elim c.if-values-lt1.branch [
  | in_default w ↦ w.operands-is ∙ c.new-operands.ensures ∙ none-added c.args.ty.now c.args.values.now w.in_default.len_below
  | in-len1-up+in_ok-typed+in_ok-push+in_ok-none+in_ok-push_bare w ↦ w.operands-is
      ∙ first-added c.args.ty.now w.push.new.self w.push_bare.new.operands c.args.values.now (record { 0 = 0 }) w.in-len1-up.len_at_least
      (w.in_ok-push.ensures.ok ∙ (λ i. c.new-operands.ensures i ++ w.in_ok-typed.ensures i ∷ [])) w.in_ok-push_bare.ensures
]
