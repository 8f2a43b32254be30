use Rattle.std.proofs.Common.{◌≡◌, List, ap, ◌∙◌}
use Rattle.lh_unit.specs.Arena.{table_at, args_at, unit_text_at}
use Rattle.lh_unit.specs.declared.inst.Arg.{Arg}
use Rattle.lh_eval.specs.Sound.{InstIsSound}
use Rattle.lh_elab_plan.specs.Statics.{by_of, args_begun, sigs_begun}
use Rattle.lh_elab_plan.proofs.PlanSteps.{insts-in, each-inst, sound, begun-fits, parts-follow}
use Rattle.lh_elab_plan.proofs.plan.parts.Goals as goal

pub hold_signals-requires-clause-insts : goal.hold_signals-requires-clause-insts
hold_signals-requires-clause-insts c = insts-in c.args.m.now c.args.unit.0 c.requires.arena c.requires.unit c.requires.entity c.args.insts.now c.requires.insts

pub run-requires-clause-insts : goal.run-requires-clause-insts
run-requires-clause-insts c = insts-in c.args.m.now c.args.unit.0 c.requires.arena c.requires.unit c.requires.entity c.args.insts.now c.requires.insts

pub run-requires-clause-sound : goal.run-requires-clause-sound
run-requires-clause-sound c =
    each-inst c.args.m.now c.args.unit.0 c.requires.arena c.requires.unit c.requires.entity (InstIsSound (unit_text_at c.args.m.now c.args.unit.0)) c.args.insts.now c.requires.insts
    (sound c.args.m.now c.args.unit.0 c.requires.arena c.requires.unit c.requires.entity c.requires.formed).lines

pub run-requires-clause-fit : goal.run-requires-clause-fit
run-requires-clause-fit c =
    let m = c.args.m.now in
    let u = c.args.unit.0 in
    let by : by_of c.hold_signals.new.self ≡ sigs_begun (table_at m u) 0 c.args.insts.now (args_begun 0 (args_at m u) (by_of c.in_ok-statics.statics)) =
    c.hold_signals.ensures.by ∙ ap (sigs_begun (table_at m u) 0 c.args.insts.now) (c.hold_args.ensures.by
    ∙ ap (λ (l : List Arg). args_begun 0 l (by_of c.in_ok-statics.statics)) c.args-2.ensures.args) in
    begun-fits m u c.requires.arena c.requires.unit c.requires.entity c.requires.formed c.in_ok-statics.statics c.hold_signals.new.self c.args.insts.now c.requires.insts c.in_ok-statics.ensures.slots
    c.in_ok-statics.ensures.bases by

pub returns-clause-follows : goal.returns-clause-follows
returns-clause-follows c =
    let m = c.args.m.now in
    let u = c.args.unit.0 in
    let by : by_of c.hold_signals.new.self ≡ sigs_begun (table_at m u) 0 c.args.insts.now (args_begun 0 (args_at m u) (by_of c.in_ok-statics.statics)) =
    c.hold_signals.ensures.by ∙ ap (sigs_begun (table_at m u) 0 c.args.insts.now) (c.hold_args.ensures.by
    ∙ ap (λ (l : List Arg). args_begun 0 l (by_of c.in_ok-statics.statics)) c.args-2.ensures.args) in
    parts-follow m u c.requires.arena c.requires.unit c.requires.entity c.in_ok-statics.statics c.hold_signals.new.self c.run.new.self c.args.insts.now c.requires.insts c.in_ok-statics.ensures.slots
    c.in_ok-statics.ensures.bases by c.in_ok-run.ensures.follows
