use Rattle.std.proofs.Common.{subst, sym}
use Rattle.lh_unit.specs.Within.{Each}
use Rattle.lh_unit.specs.Placed.{IsBlockOf}
use Rattle.lh_unit.proofs.PlacedIds.{blocks-placed}
use Rattle.lh_print.proofs.units.put_unit.Goals as goal

pub put_blocks-requires : goal.put_blocks-requires
put_blocks-requires c = record {
  blocks = subst (Each (IsBlockOf c.args.view.module.now c.args.view.unit.0)) (sym c.blocks-2.ensures.blocks)
      (blocks-placed c.args.view.module.now c.args.view.unit.0 c.blocks-2.ensures.sound c.args.view.in_place);
}
