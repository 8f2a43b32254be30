use Rattle.lh_verify.proofs.OtherUnits.{unit-within}
use Rattle.lh_verify.proofs.units.is_defined.Goals as goal

pub kind-requires : goal.kind-requires
kind-requires c = unit-within c.args.scope.now c.args.unit.0 c.requires
