use Rattle.std.proofs.Common.{length, refl}
use Rattle.std.proofs.lemmas.List.{get_or_default}
use Rattle.std.proofs.lemmas.Bool.{false≢true}
use Rattle.lh_kernel_changes.proofs.TouchedSignals.{part_within}
use Rattle.lh_kernel_changes.proofs.Same.{part_same, part_differs}
use Rattle.lh_kernel_changes.proofs.differ.differs.Goals as goal

pub same_part-requires-clause-within : goal.same_part-requires-clause-within
same_part-requires-clause-within c = part_within (length c.args.old.now) c.args.parts.now c.loop-part.part-index _ c.requires.in_old c.loop-part-test.true
    (get_or_default _ _ _ _ c.loop-part-test.true)

pub same_part-requires-clause-other_within : goal.same_part-requires-clause-other_within
same_part-requires-clause-other_within c = part_within (length c.args.now.now) c.args.parts.now c.loop-part.part-index _ c.requires.in_now c.loop-part-test.true
    (get_or_default _ _ _ _ c.loop-part-test.true)

pub returns-then-not-same_part : goal.returns-then-not-same_part
returns-then-not-same_part c =
    part_differs c.args.old.now c.args.now.now c.args.parts.now c.loop-part.part-index _ c.loop-part-test.true (get_or_default _ _ _ _ c.loop-part-test.true)
    (part_within (length c.args.old.now) c.args.parts.now c.loop-part.part-index _ c.requires.in_old c.loop-part-test.true (get_or_default _ _ _ _ c.loop-part-test.true))
    (part_within (length c.args.now.now) c.args.parts.now c.loop-part.part-index _ c.requires.in_now c.loop-part-test.true (get_or_default _ _ _ _ c.loop-part-test.true))
    (λ e. false≢true (c.if-not-same_part.ensures.1 e)) c.loop-part.invariant

pub loop-part-preserved : goal.loop-part-preserved
loop-part-preserved c =
    part_same c.args.old.now c.args.now.now c.args.parts.now c.loop-part.part-index _ c.loop-part-test.true (get_or_default _ _ _ _ c.loop-part-test.true)
    (part_within (length c.args.old.now) c.args.parts.now c.loop-part.part-index _ c.requires.in_old c.loop-part-test.true (get_or_default _ _ _ _ c.loop-part-test.true))
    (part_within (length c.args.now.now) c.args.parts.now c.loop-part.part-index _ c.requires.in_now c.loop-part-test.true (get_or_default _ _ _ _ c.loop-part-test.true))
    (c.if-not-same_part.ensures.0 refl) c.loop-part.invariant
