use Rattle.std.proofs.Common.{List, drop, ap, sym, ◌∙◌}
use Rattle.std.proofs.lemmas.List.{drop_all}
use Rattle.lh_unit.specs.declared.inst.Typed.{Typed}
use Rattle.lh_exec.specs.Taking.{operands_given}
use Rattle.lh_exec.proofs.CallSteps.{operands-done}
use Rattle.lh_exec.proofs.calls.hold_operands.Goals as goal

pub returns : goal.returns
returns c =
    let none_left = drop_all c.loop-i.i c.args.operands.now c.loop-i-test.false in
    operands-done (drop c.loop-i.i c.args.args.now) c.args.from.now c.loop-i.to (operands_given c.args.args.now c.args.operands.now c.args.from.now c.args.to.now)
    (ap (λ (os : List Typed). operands_given (drop c.loop-i.i c.args.args.now) os c.args.from.now c.loop-i.to) (sym none_left) ∙ c.loop-i.invariant.same)
