use Rattle.std.proofs.lemmas.List.{get_or_default}
use Rattle.lh_kernel_changes.proofs.Same.{part_among}
use Rattle.lh_kernel_changes.proofs.differ.has_part.Goals as goal

pub returns-then-one-part-2 : goal.returns-then-one-part-2
returns-then-one-part-2 c = λ old now d t. part_among old now c.args.parts.now c.loop-one.one-index _ c.args.part c.loop-one-test.true
    (get_or_default _ _ _ _ c.loop-one-test.true) c.if-one-part.true c.if-one-part-2.true d
