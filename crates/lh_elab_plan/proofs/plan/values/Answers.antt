use Rattle.lh_unit.specs.Arena.{unit_text_at}
use Rattle.lh_eval.specs.Sound.{InstIsSound}
use Rattle.lh_elab_plan.proofs.PlanSteps.{insts-in, each-inst, sound, new-fits, values-hold}
use Rattle.lh_elab_plan.proofs.plan.values.Goals as goal

pub run-requires-clause-insts : goal.run-requires-clause-insts
run-requires-clause-insts c = insts-in c.args.m.now c.args.unit.0 c.requires.arena c.requires.unit c.requires.entity c.args.insts.now c.requires.insts

pub run-requires-clause-sound : goal.run-requires-clause-sound
run-requires-clause-sound c =
    each-inst c.args.m.now c.args.unit.0 c.requires.arena c.requires.unit c.requires.entity (InstIsSound (unit_text_at c.args.m.now c.args.unit.0)) c.args.insts.now c.requires.insts
    (sound c.args.m.now c.args.unit.0 c.requires.arena c.requires.unit c.requires.entity c.requires.formed).lines

pub run-requires-clause-fit : goal.run-requires-clause-fit
run-requires-clause-fit c = new-fits c.args.m.now c.args.unit.0 c.requires.arena c.requires.unit c.in_ok-statics.statics c.in_ok-statics.ensures.slots

pub returns-clause-holds : goal.returns-clause-holds
returns-clause-holds c = values-hold c.args.m.now c.args.unit.0 c.requires.arena c.requires.unit c.requires.entity c.in_ok-statics.statics c.run.new.self c.args.insts.now c.requires.insts
    c.in_ok-statics.ensures.slots c.in_ok-statics.ensures.bases c.in_ok-run.ensures.follows
