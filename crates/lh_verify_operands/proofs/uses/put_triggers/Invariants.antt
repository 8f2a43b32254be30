use Rattle.std.proofs.Common.{◌≡◌, ◌++◌, drop}
use Rattle.lh_verify_operands.specs.Uses.{triggers_uses}
use Rattle.lh_verify_operands.proofs.uses.put_triggers.Given as goal

abbrev pub invariant-loop-trigger : goal.invariant-loop-trigger
invariant-loop-trigger l = l.list ++ triggers_uses (drop l.trigger-index l.triggers) ≡ l.initial.list ++ triggers_uses l.triggers
