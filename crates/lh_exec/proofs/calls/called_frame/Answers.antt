use Rattle.std.proofs.Common.{◌≡◌, ◌∙◌, Option, None, false, true, replicate, ap, sym, subst}
use Rattle.lh_unit.specs.Arena.{value_count, args_at}
use Rattle.lh_unit.specs.Held.{Held}
use Rattle.lh_exec.specs.Taking.{operands_given, GivesValues}
use Rattle.lh_exec.proofs.CallSteps.{called-frame, called-none}
use Rattle.lh_exec.proofs.calls.called_frame.Goals as goal

pub returns-then-not-branch : goal.returns-then-not-branch
returns-then-not-branch c = λ u e d.
    let m = c.args.m.now in
    let b : c.in_ok-hold_operands.field-0 ≡ false = cc in
    let given = subst (λ b. GivesValues b c.hold_operands.new.to (operands_given c.args-2.result.now c.args.args.now c.args.slots.now c.in_ok-held.held)) b c.in_ok-hold_operands.ensures in
    let first : c.in_ok-held.held ≡ replicate (value_count m c.args.unit.0) None = c.in_ok-held.ensures ∙ ap (λ k. let none : Option Held = None in replicate k none) c.values.ensures.count in
    let start = ap (λ l. operands_given l c.args.args.now c.args.slots.now c.in_ok-held.held) c.args-2.ensures.args
    ∙ ap (operands_given (args_at m c.args.unit.0) c.args.args.now c.args.slots.now) first in
    called-none m c.args.unit.0 c.values.ensures.sound c.requires.unit u c.args.slots.now e c.args.args.now d c.requires.args (sym start ∙ given)

pub returns : goal.returns
returns c = λ u e d.
    let m = c.args.m.now in
    let b : c.in_ok-hold_operands.field-0 ≡ true = cc in
    let given = subst (λ b. GivesValues b c.hold_operands.new.to (operands_given c.args-2.result.now c.args.args.now c.args.slots.now c.in_ok-held.held)) b c.in_ok-hold_operands.ensures in
    let first : c.in_ok-held.held ≡ replicate (value_count m c.args.unit.0) None = c.in_ok-held.ensures ∙ ap (λ k. let none : Option Held = None in replicate k none) c.values.ensures.count in
    let start = ap (λ l. operands_given l c.args.args.now c.args.slots.now c.in_ok-held.held) c.args-2.ensures.args
    ∙ ap (operands_given (args_at m c.args.unit.0) c.args.args.now c.args.slots.now) first in
    called-frame m c.args.unit.0 c.values.ensures.sound c.requires.unit u c.args.slots.now e c.args.args.now d c.requires.args c.hold_operands.new.to c.first_frame.result (sym start ∙ given)
    c.first_frame.ensures
