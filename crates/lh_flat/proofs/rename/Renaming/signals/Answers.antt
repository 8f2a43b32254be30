use Rattle.std.proofs.Common.{◌<◌, length}
use Rattle.lh_unit.specs.declared.inst.ValueId.{ValueId}
use Rattle.lh_unit.proofs.Lists.{Each-next}
use Rattle.lh_flat.specs.Renames.{value_in}
use Rattle.lh_flat.proofs.Loops.{mapped-next}
use Rattle.lh_flat.proofs.rename.Renaming.signals.Goals as goal

pub loop-signal-preserved : goal.loop-signal-preserved
loop-signal-preserved c = record {
  same = mapped-next (value_in c.args.self.now) c.loop-signal.to c.push.new.self c.as_slice-items.result.now c.loop-signal.signal-index (record { 0 = 0 }) c.value.result c.loop-signal-test.true c.in_ok-push.ensures.ok (c.value.ensures) c.loop-signal.invariant.same;
  within = Each-next (λ (v : ValueId). v.0 < length c.args.self.now.values) c.as_slice-items.result.now c.loop-signal.signal-index (record { 0 = 0 }) c.loop-signal-test.true c.loop-signal.invariant.within;
}
