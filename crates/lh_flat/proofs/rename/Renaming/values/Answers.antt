use Rattle.std.proofs.Common.{◌<◌, length, ap, ◌∙◌}
use Rattle.lh_unit.specs.declared.inst.Typed.{Typed}
use Rattle.lh_unit.proofs.Lists.{Each-next}
use Rattle.lh_flat.specs.Renames.{value_in}
use Rattle.lh_flat.proofs.Loops.{mapped-next}
use Rattle.lh_flat.proofs.rename.Renaming.values.Goals as goal

pub loop-operand-preserved : goal.loop-operand-preserved
loop-operand-preserved c = record {
  same = mapped-next (λ (o : Typed). value_in c.args.self.now o.value) c.loop-operand.to c.push.new.self c.as_slice-items.result.now c.loop-operand.operand-index c.operand-item.result c.value.result c.loop-operand-test.true c.in_ok-push.ensures.ok (c.value.ensures ∙ ap (λ (o : Typed). value_in c.args.self.now o.value) c.operand-item.is) c.loop-operand.invariant.same;
  within = Each-next (λ (o : Typed). o.value.0 < length c.args.self.now.values) c.as_slice-items.result.now c.loop-operand.operand-index c.operand-item.result c.loop-operand-test.true c.loop-operand.invariant.within;
}
