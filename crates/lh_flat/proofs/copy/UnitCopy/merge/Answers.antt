use Rattle.std.proofs.Common.{Some}
use Rattle.lh_flat.proofs.BuilderRoom.{maybe-within}
use Rattle.lh_flat.proofs.copy.UnitCopy.merge.Goals as goal

pub value-requires : goal.value-requires
value-requires c =
    maybe-within c.args.self.now.view.module.now c.in-Some.ensures.sound c.args.self.now.view.unit.0 c.args.self.now.view.in_place c.args.self.now.ids c.args.self.now.fits 0 c.args.id.0
    (Some c.in-Some.value) c.in-Some.ensures.value
