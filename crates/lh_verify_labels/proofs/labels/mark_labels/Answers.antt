use Rattle.std.proofs.Common.{◌≡◌, ℕ, List, false, length, ap, sym, ◌∙◌, subst}
use Rattle.lh_unit.specs.Arena.{label_count, blocks_at}
use Rattle.lh_unit.specs.declared.inst.BlockId.{BlockId}
use Rattle.lh_verify_labels.specs.Marking.{BlockMarks, has_labels}
use Rattle.lh_verify_values.proofs.KnowingSteps.{length-replicate}
use Rattle.lh_verify_labels.proofs.MarkingSteps.{stands-none, stands-blocks}
use Rattle.lh_verify_labels.proofs.labels.mark_labels.Goals as goal

pub returns-then-not-has_labels : goal.returns-then-not-has_labels
returns-then-not-has_labels c = stands-none c.args.m.now c.args.unit.0 c.args.marks.now c.kind.ensures.sound c.requires.unit
    (ap has_labels (sym c.kind.ensures.kind) ∙ sym c.has_labels.ensures ∙ c.if-not-has_labels.true) c.requires.marks

pub returns : goal.returns
returns c =
    let n : length c.args.marks.now ≡ label_count c.args.m.now c.args.unit.0 = ap length c.requires.marks ∙ length-replicate (label_count c.args.m.now c.args.unit.0) false in
    stands-blocks c.args.m.now c.args.unit.0 c.mark_blocks.new.marks c.kind.ensures.sound c.requires.unit
    (ap has_labels (sym c.kind.ensures.kind) ∙ sym c.has_labels.ensures ∙ c.if-not-has_labels.false)
    (subst (λ (k : ℕ). BlockMarks (blocks_at c.args.m.now c.args.unit.0) k c.mark_blocks.new.marks) n
    (subst (λ (l : List BlockId). BlockMarks l (length c.args.marks.now) c.mark_blocks.new.marks) c.blocks-2.ensures.blocks c.mark_blocks.ensures))
