use Rattle.std.proofs.Common.{arith, refl, sym}
use Rattle.lh_types.proofs.Limits.{bit_count-le}
use Rattle.lh_types.proofs.PartLemmas.{StepsAt-next}
use Rattle.lh_types.proofs.part.range_of.Goals as goal

pub overflow_add-part : goal.overflow_add-part
overflow_add-part c =
    let w = StepsAt-next _ _ _ _ _ _ c.loop-step.invariant c.loop-step-test.true refl _ (sym c.in_ok-next.ensures) in
    omega (arith, w.inside, bit_count-le c.args.t.now c.requires)

pub loop-step-preserved : goal.loop-step-preserved
loop-step-preserved c = StepsAt-next _ _ _ _ _ _ c.loop-step.invariant c.loop-step-test.true refl _ (sym c.in_ok-next.ensures)
