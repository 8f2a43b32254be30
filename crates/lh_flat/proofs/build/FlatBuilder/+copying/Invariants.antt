use Rattle.std.proofs.Common.{◌≡◌, ◌+◌, ◌*◌, drop}
use Rattle.lh_unit.specs.Arena.{block_insts_at}
use Rattle.lh_flat.specs.Building.{insts_added, blocks_added, call_added, unit_added}
use Rattle.lh_flat.proofs.build.FlatBuilder.+copying.Given as goal

abbrev pub decreases-add_block : goal.decreases-add_block
decreases-add_block l = 5 * l.depth + 2

abbrev pub decreases-add_call : goal.decreases-add_call
decreases-add_call l = 5 * l.depth

abbrev pub decreases-add_inst : goal.decreases-add_inst
decreases-add_inst l = 5 * l.depth + 1

abbrev pub decreases-add_copy : goal.decreases-add_copy
decreases-add_copy l = 5 * l.depth + 4

abbrev pub decreases-add_unit : goal.decreases-add_unit
decreases-add_unit l = 5 * l.depth + 3

abbrev pub invariant-add_block-loop-id : goal.invariant-add_block-loop-id
invariant-add_block-loop-id l =
    let a = l.copy.view.module.now in
    let u = l.copy.view.unit.0 in
    insts_added (call_added l.depth a) a u l.copy.ids (drop l.id-index l.id-items) l.self ≡ insts_added (call_added l.depth a) a u l.copy.ids (block_insts_at a u l.fn.block.0) l.fn.self

abbrev pub invariant-add_unit-loop-block : goal.invariant-add_unit-loop-block
invariant-add_unit-loop-block l =
    let a = l.copy.view.module.now in
    let u = l.copy.view.unit.0 in
    blocks_added (call_added l.depth a) a u l.copy.ids (drop l.block-index l.block-items) l.self ≡ unit_added l.depth a u l.copy.ids l.fn.self
