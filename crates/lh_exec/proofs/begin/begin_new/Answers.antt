use Rattle.std.proofs.Common.{◌≡◌, ◌∙◌, Option, None, replicate, ap, subst}
use Rattle.lh_unit.specs.Activation.{entry}
use Rattle.lh_unit.specs.Arena.{value_count, args_at, unit_text_at}
use Rattle.lh_unit.specs.Held.{Held}
use Rattle.lh_eval.specs.Beginning.{args_given}
use Rattle.lh_exec.specs.declared.machine.UnitFrame.{UnitFrame}
use Rattle.lh_exec.specs.Standing.{MaybeFrame}
use Rattle.lh_unit.specs.World.{begun}
use Rattle.lh_exec.proofs.Begins.{held-args, begins-some, begins-none}
use Rattle.lh_exec.proofs.begin.begin_new.Goals as goal

pub returns-in-Some : goal.returns-in-Some
returns-in-Some c =
    let m = c.args.m.now in
    let u = c.args.unit.0 in
    let first : c.in_ok-slots.slots ≡ replicate (value_count m u) None = c.in_ok-slots.ensures ∙ ap (λ k. let none : Option Held = None in replicate k none) c.values.ensures.count in
    let all : c.hold_args.new.slots ≡ args_given (args_at m u) c.args.args.now (replicate (value_count m u) None) = c.hold_args.ensures
    ∙ ap (λ l. args_given l c.args.args.now c.in_ok-slots.slots) c.args-2.ensures.args ∙ ap (args_given (args_at m u) c.args.args.now) first in
    let held = (begun (unit_text_at m u) c.args.args.now).held in
    begins-some m c.in-Some.frame (entry (unit_text_at m u) held) c.machine_at.result c.requires.arena
    (subst (λ (x : Option UnitFrame). MaybeFrame m x (entry (unit_text_at m u) held)) c.in-Some.is
    (c.first_frame.ensures held (held-args m u c.requires.arena c.requires.unit c.args.args.now c.hold_args.new.slots all)))
    c.machine_at.ensures.frame c.machine_at.ensures.callers c.machine_at.ensures.wishes c.machine_at.ensures.outcomes

pub returns-in-None : goal.returns-in-None
returns-in-None c =
    let m = c.args.m.now in
    let u = c.args.unit.0 in
    let first : c.in_ok-slots.slots ≡ replicate (value_count m u) None = c.in_ok-slots.ensures ∙ ap (λ k. let none : Option Held = None in replicate k none) c.values.ensures.count in
    let all : c.hold_args.new.slots ≡ args_given (args_at m u) c.args.args.now (replicate (value_count m u) None) = c.hold_args.ensures
    ∙ ap (λ l. args_given l c.args.args.now c.in_ok-slots.slots) c.args-2.ensures.args ∙ ap (args_given (args_at m u) c.args.args.now) first in
    let held = (begun (unit_text_at m u) c.args.args.now).held in
    begins-none m (entry (unit_text_at m u) held)
    (subst (λ (x : Option UnitFrame). MaybeFrame m x (entry (unit_text_at m u) held)) c.in-None.is
    (c.first_frame.ensures held (held-args m u c.requires.arena c.requires.unit c.args.args.now c.hold_args.new.slots all)))
