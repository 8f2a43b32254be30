use Rattle.std.proofs.Common.{◌≡◌, length, ◌∙◌}
use Rattle.lh_unit.specs.Arena.{value_count}
use Rattle.lh_unit.proofs.ById.{result-within}
use Rattle.lh_eval.proofs.BeginSteps.{maybe-in}
use Rattle.lh_elab_plan.proofs.statics.Statics.hold_signals.Goals as goal

pub give-requires-clause-name : goal.give-requires-clause-name
give-requires-clause-name c =
    let n : length c.loop-inst.self.slots ≡ value_count c.args.m.now c.args.unit.0 = c.loop-inst.invariant.long ∙ c.requires.long in
    rw c.result_of.ensures.value (maybe-in (value_count c.args.m.now c.args.unit.0) c.loop-inst.self.slots _ n (result-within c.args.m.now c.args.unit.0 c.inst.ensures.sound c.requires.unit _))
