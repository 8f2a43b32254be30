use Rattle.std.proofs.Common.{length, get_or, [], refl}
use Rattle.std.proofs.lemmas.List.{get_or_default}
use Rattle.lh_types.specs.declared.part.Range.{Range}
use Rattle.lh_kernel_changes.proofs.TouchedSignals.{part_within, parts_more, parts_all}
use Rattle.lh_kernel_changes.proofs.signals.touched_by.Goals as goal

pub touch-requires-clause-within : goal.touch-requires-clause-within
touch-requires-clause-within c = part_within (length c.args.design.now.init) c.args.parts.now c.loop-part.part-index _ c.requires.within c.loop-part-test.true
    (get_or_default _ _ _ _ c.loop-part-test.true)

pub loop-part-preserved : goal.loop-part-preserved
loop-part-preserved c =
    let part : Range = get_or c.args.parts.now c.loop-part.part-index (record { lo = 0; len = 0 }) in
    parts_more c.args.design.now.signals.items c.args.parts.now c.loop-part.part-index part [] c.loop-part.touched c.touch.new.touched c.loop-part-test.true
    (get_or_default _ _ _ _ c.loop-part-test.true) c.loop-part.invariant c.in_ok-touch.ensures

pub returns : goal.returns
returns c = parts_all c.args.design.now.signals.items c.args.parts.now c.loop-part.part-index _ c.loop-part.touched c.loop-part-test.false refl c.loop-part.invariant
