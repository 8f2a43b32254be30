use Rattle.std.proofs.Common.{◌≡◌, ◌++◌, drop}
use Rattle.lh_unit.specs.Arena.{block_insts_at}
use Rattle.lh_flat.specs.Building.{insts_give}
use Rattle.lh_flat.proofs.copy.UnitCopy.give_block.Given as goal

abbrev pub invariant-loop-id : goal.invariant-loop-id
invariant-loop-id l =
    let a = l.self.view.module.now in
    let u = l.self.view.unit.0 in
    l.edges ++ insts_give a u l.self.ids l.block (drop l.id-index l.id-items) ≡ l.fn.edges ++ insts_give a u l.self.ids l.block (block_insts_at a u l.block.0)
