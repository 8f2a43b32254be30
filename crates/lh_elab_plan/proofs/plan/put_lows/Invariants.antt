use Rattle.std.proofs.Common.{◌≡◌, ◌++◌, take}
use Rattle.lh_elab_plan.specs.Plans.{lows_by}
use Rattle.lh_elab_plan.proofs.plan.put_lows.Given as goal

abbrev pub invariant-loop-operand : goal.invariant-loop-operand
invariant-loop-operand l = l.lows.items ≡ l.initial.lows.items ++ lows_by l.statics (take l.operand-index l.operands)
