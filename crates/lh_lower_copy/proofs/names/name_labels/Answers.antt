use Rattle.std.proofs.Common.{Ok, subst, arith}
use Rattle.lh_unit.specs.Arena.{label_count, label_name_at}
use Rattle.lh_unit.specs.Builders.{FindsLabel}
use Rattle.lh_lower_copy.proofs.NamesById.{labels-start, labels-next, labels-differ}
use Rattle.lh_lower_copy.proofs.names.name_labels.Goals as goal

pub loop-label-preserved : goal.loop-label-preserved
loop-label-preserved c =
    let a = c.args.from.now in let u = c.args.unit in let k = c.loop-label.label in
    let old = c.loop-label.m in let new = c.block_named.new.self in let v = c.in_ok-block_named.field-0 in let f = label_name_at a u.0 in
    labels-next c.args.m.now old new u (label_count a u.0) k f v (labels-differ a u.0 c.labels-label-end.ensures.sound c.requires.there)
    (omega (arith, c.loop-label-test.true, c.labels-label-end.ensures.count)) c.loop-label.invariant
    (subst (λ n. FindsLabel (Ok v) old new u n) c.block_name.ensures.name c.in_ok-block_named.ensures)

pub loop-label-init : goal.loop-label-init
loop-label-init c = labels-start c.args.m.now c.args.unit.0 (label_name_at c.args.from.now c.args.unit.0) c.requires.none
