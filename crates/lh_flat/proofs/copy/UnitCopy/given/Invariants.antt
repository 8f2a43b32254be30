use Rattle.std.proofs.Common.{◌≡◌, ◌++◌, drop}
use Rattle.lh_unit.specs.Arena.{blocks_at}
use Rattle.lh_flat.specs.Building.{blocks_give}
use Rattle.lh_flat.proofs.copy.UnitCopy.given.Given as goal

abbrev pub invariant-loop-block : goal.invariant-loop-block
invariant-loop-block l =
    let a = l.self.view.module.now in
    let u = l.self.view.unit.0 in
    l.edges ++ blocks_give a u l.self.ids (drop l.block-index l.block-items) ≡ blocks_give a u l.self.ids (blocks_at a u)
