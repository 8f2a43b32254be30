use Rattle.std.proofs.Common.{◌≡◌, ◌+◌, ◌*◌, drop}
use Rattle.lh_unit.specs.Arena.{block_insts_at}
use Rattle.lh_flat.specs.Building.{insts_room, blocks_room, unit_room, call_room}
use Rattle.lh_flat.proofs.layout.+room.Given as goal

abbrev pub decreases-call_room : goal.decreases-call_room
decreases-call_room l = 3 * l.depth

abbrev pub decreases-insts_room : goal.decreases-insts_room
decreases-insts_room l = 3 * l.depth + 1

abbrev pub decreases-unit_room : goal.decreases-unit_room
decreases-unit_room l = 3 * l.depth + 2

abbrev pub invariant-insts_room-loop-inst : goal.invariant-insts_room-loop-inst
invariant-insts_room-loop-inst l =
    let a = l.view.module.now in
    let u = l.view.unit.0 in
    l.room + insts_room (call_room l.depth a) a u (drop l.inst-index l.inst-items) ≡ insts_room (call_room l.depth a) a u (block_insts_at a u l.fn.block.0)

abbrev pub invariant-unit_room-loop-block : goal.invariant-unit_room-loop-block
invariant-unit_room-loop-block l =
    let a = l.view.module.now in
    let u = l.view.unit.0 in
    l.room + blocks_room (call_room l.depth a) a u (drop l.block-index l.block-items) ≡ unit_room (call_room l.depth a) a u
