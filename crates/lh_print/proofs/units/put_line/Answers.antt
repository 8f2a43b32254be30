use Rattle.std.proofs.Common.{subst, sym}
use Rattle.lh_unit.specs.Arena.{sizes}
use Rattle.lh_unit.specs.Within.{MaybeWithin}
use Rattle.lh_unit.proofs.PlacedIds.{result-placed}
use Rattle.lh_print.proofs.units.put_line.Goals as goal

pub put_assigned-requires : goal.put_assigned-requires
put_assigned-requires c = record {
  value = subst (MaybeWithin (sizes c.args.view.module.now c.args.view.unit.0)) (sym c.result_of.ensures.value)
      (result-placed c.args.view.module.now c.args.view.unit.0 c.args.inst.0 c.result_of.ensures.sound c.args.view.in_place);
}
