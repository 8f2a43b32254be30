use Rattle.std.proofs.Common.{◌≡◌, ◌+◌, drop}
use Rattle.lh_flat.specs.Building.{blocks_room, unit_room, call_room, spans_with, spans_of}
use Rattle.lh_flat.proofs.layout.layout.Given as goal

abbrev pub invariant-loop-block : goal.invariant-loop-block
invariant-loop-block l =
    let a = l.view.module.now in
    let u = l.view.unit.0 in
    record {
      spans : spans_with (call_room l.depth a) a u l.next (drop l.block-index l.block-items) l.spans.items ≡ spans_of (call_room l.depth a) a u l.fn.at;
      room : l.next + blocks_room (call_room l.depth a) a u (drop l.block-index l.block-items) ≡ l.fn.at + unit_room (call_room l.depth a) a u;
    }
