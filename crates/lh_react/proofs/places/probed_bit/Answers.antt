use Rattle.lh_unit.specs.Arena.{naming, unit_text_at}
use Rattle.lh_unit.specs.Naming.{value_text}
use Rattle.lh_react.proofs.ProbedBits.{bit-at}
use Rattle.lh_react.proofs.places.probed_bit.Goals as goal

pub returns-then-part-eq1 : goal.returns-then-part-eq1
returns-then-part-eq1 c =
    bit-at (unit_text_at c.args.m.now c.args.unit.0) c.args.args.now
    (value_text (naming c.args.m.now c.args.unit.0) c.args.value) c.in-Some.part c.if-part-eq1.true c.in-Some.ensures
