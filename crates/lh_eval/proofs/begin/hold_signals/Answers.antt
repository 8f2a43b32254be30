use Rattle.std.proofs.Common.{◌≡◌, length, arith}
use Rattle.lh_unit.specs.Arena.{table_at, value_count}
use Rattle.lh_unit.proofs.ById.{result-within}
use Rattle.lh_eval.proofs.BeginSteps.{maybe-in, no-ranges}
use Rattle.lh_eval.proofs.begin.hold_signals.Goals as goal

pub give-requires : goal.give-requires
give-requires c = rw c.result_of.ensures.value
    (maybe-in (value_count c.args.m.now c.args.unit.0) c.loop-inst.slots _ c.loop-inst.invariant.long (result-within c.args.m.now c.args.unit.0 c.inst.ensures.sound c.requires.unit _))

pub returns-then-is_empty : goal.returns-then-is_empty
returns-then-is_empty c =
    let n : length c.args.ranges.now ≡ 0 = grind (arith, c.if-is_empty.true, c.is_empty.ensures) in
    no-ranges (table_at c.args.m.now c.args.unit.0) c.args.insts.now c.args.ranges.now c.args.slots.now n
