use Rattle.std.proofs.Common.{arith}
use Rattle.lh_elab.proofs.PlanTables.{none-right}
use Rattle.lh_elab.proofs.elaborate.Plans.new.Goals as goal

pub returns : goal.returns
returns c = record {
  plans = record {
    long = let n = c.units-unit-end.ensures.count in
        omega (arith, c.loop-unit.invariant.long, c.loop-unit-test.false, c.loop-unit.auto, n);
    right = none-right c.args.m.now c.loop-unit.plans.items c.loop-unit.invariant.none;
  };
  sound = c.units-unit-end.ensures.sound;
}
