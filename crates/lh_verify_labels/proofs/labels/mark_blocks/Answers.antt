use Rattle.std.proofs.Common.{List, true, set, get_or, length, take, subst, arith}
use Rattle.lh_unit.specs.declared.inst.BlockId.{BlockId}
use Rattle.lh_verify_labels.specs.Marking.{BlockMarks}
use Rattle.lh_verify_values.proofs.KnowingSteps.{taken, take-all}
use Rattle.lh_verify_labels.proofs.MarkingSteps.{blocks-none, blocks-more, blocks-item}
use Rattle.lh_verify_labels.proofs.labels.mark_blocks.Goals as goal

pub bounds-marks-block : goal.bounds-marks-block
bounds-marks-block c = omega (
  arith,
  blocks-item (length c.args.marks.now) c.args.blocks.now c.loop-block.block-index (record { 0 = 0 }) c.requires.within c.loop-block-test.true,
  c.loop-block.auto.marks,
)

pub loop-block-init : goal.loop-block-init
loop-block-init c = blocks-none (length c.args.marks.now) c.args.marks.now c.requires.marks

pub loop-block-preserved : goal.loop-block-preserved
loop-block-preserved c =
    let b : BlockId = get_or c.args.blocks.now c.loop-block.block-index (record { 0 = 0 }) in
    subst (λ (l : List BlockId). BlockMarks l (length c.args.marks.now) (set c.loop-block.marks b.0 true)) (taken c.args.blocks.now c.loop-block.block-index (record { 0 = 0 }) c.loop-block-test.true)
    (blocks-more (length c.args.marks.now) (take c.loop-block.block-index c.args.blocks.now) b c.loop-block.marks c.loop-block.invariant
    (blocks-item (length c.args.marks.now) c.args.blocks.now c.loop-block.block-index (record { 0 = 0 }) c.requires.within c.loop-block-test.true))

pub returns : goal.returns
returns c = subst (λ (l : List BlockId). BlockMarks l (length c.args.marks.now) c.loop-block.marks) (take-all c.args.blocks.now c.loop-block.block-index c.loop-block-test.false) c.loop-block.invariant
