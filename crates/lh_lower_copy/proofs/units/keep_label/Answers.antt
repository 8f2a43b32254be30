use Rattle.std.proofs.Common.{IfOk, subst}
use Rattle.lh_lower_copy.specs.Changing.{Becomes}
use Rattle.lh_lower_copy.proofs.Rests.{unlabelled, has-blocks, label-new}
use Rattle.lh_lower_copy.proofs.units.keep_label.Goals as goal

pub returns-in-Entity : goal.returns-in-Entity
returns-in-Entity c = unlabelled c.args.from.now c.args.m.now c.args.unit c.args.block c.args.kind c.requires.kind c.in-Entity.is c.requires.opened

pub put_block-requires : goal.put_block-requires
put_block-requires c =
    let a = c.args.from.now in let m = c.args.m.now in
    let n = label-new a m c.args.unit.0 c.args.block c.requires.sound c.requires.there (has-blocks a c.args.unit.0 c.args.kind c.requires.kind c.in-Func.is) c.requires.named c.requires.stands
    c.requires.fits in
    record { opened = c.requires.opened; labels = n.labels; within = n.within; undefined = n.undefined }

pub returns-in-Func : goal.returns-in-Func
returns-in-Func c =
    let a = c.args.from.now in let m = c.args.m.now in
    let n = label-new a m c.args.unit.0 c.args.block c.requires.sound c.requires.there (has-blocks a c.args.unit.0 c.args.kind c.requires.kind c.in-Func.is) c.requires.named c.requires.stands
    c.requires.fits in
    subst (λ t. IfOk c.put_block.result (λ x. Becomes m c.put_block.new.m c.args.unit t)) n.gives c.put_block.ensures
