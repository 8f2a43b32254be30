use Rattle.std.proofs.Common.{subst, sym}
use Rattle.lh_unit.specs.Within.{Each}
use Rattle.lh_unit.specs.Placed.{IsBlockOf}
use Rattle.lh_unit.proofs.PlacedIds.{blocks-placed}
use Rattle.lh_verify.proofs.predecessors.predecessors.Goals as goal

pub put_blocks-requires-clause-blocks : goal.put_blocks-requires-clause-blocks
put_blocks-requires-clause-blocks c = subst (Each (IsBlockOf c.args.m.now c.args.unit.0)) (sym c.blocks-2.ensures.blocks) (blocks-placed c.args.m.now c.args.unit.0 c.blocks-2.ensures.sound c.requires)
