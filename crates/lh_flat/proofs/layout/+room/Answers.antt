use Rattle.std.proofs.Common.{◌≡◌, ◌+◌, ◌-◌, drop, get_or, sym, ap, ◌∙◌, arith, ℕ}
use Rattle.std.proofs.lemmas.List.{drop_more}
use Rattle.lh_unit.specs.Arena.{inst_at}
use Rattle.lh_unit.specs.declared.inst.BlockId.{BlockId}
use Rattle.lh_unit.specs.declared.inst.InstId.{InstId}
use Rattle.lh_flat.proofs.CallGraph.{placed-at}
use Rattle.lh_flat.proofs.BuilderRoom.{no_room, flat_room, room-of_call}
use Rattle.lh_flat.specs.Graph.{callee_of}
use Rattle.lh_flat.specs.Building.{insts_room, block_room, blocks_room, unit_room, call_room}
use Rattle.lh_flat.proofs.layout.+room.Goals as goal

pub call_room-returns-in_default : goal.call_room-returns-in_default
call_room-returns-in_default t c = sym (ap (call_room c.args.depth c.args.m.now) c.in_default.is ∙ no_room c.args.depth c.args.m.now)

pub call_room-returns-then-depth-eq0 : goal.call_room-returns-then-depth-eq0
call_room-returns-then-depth-eq0 t c = sym (ap (call_room c.args.depth c.args.m.now) c.in-Some.is ∙ flat_room c.args.depth c.args.m.now c.in-Some.function c.if-depth-eq0.true)

pub call_room-unit_room-requires : goal.call_room-unit_room-requires
call_room-unit_room-requires t c = (
  omega arith,
  omega (
    arith,
    room-of_call c.args.depth c.args.m.now c.unit.result.module.now c.in-Some.function c.unit.result.unit c.args.function c.if-depth-eq0.false c.unit.ensures.module c.unit.ensures.unit
        c.in-Some.is,
    c.requires.few,
  ),
)

pub call_room-overflow_add-result : goal.call_room-overflow_add-result
call_room-overflow_add-result t c =
    omega (
      arith,
      room-of_call c.args.depth c.args.m.now c.unit.result.module.now c.in-Some.function c.unit.result.unit c.args.function c.if-depth-eq0.false c.unit.ensures.module c.unit.ensures.unit
          c.in-Some.is,
      c.requires.few,
      c.unit_room.ensures,
    )

pub call_room-returns : goal.call_room-returns
call_room-returns t c =
    ap (λ n. n + 1) c.unit_room.ensures
    ∙ room-of_call c.args.depth c.args.m.now c.unit.result.module.now c.in-Some.function c.unit.result.unit c.args.function c.if-depth-eq0.false c.unit.ensures.module c.unit.ensures.unit c.in-Some.is

pub unit_room-insts_room-calls-requires : goal.unit_room-insts_room-calls-requires
unit_room-insts_room-calls-requires t c =
    let a = c.args.view.module.now in
    let u = c.args.view.unit.0 in
    let room = call_room c.args.depth a in
    let items = c.blocks-block-items.result.now in
    let b : BlockId = get_or items c.loop-block.block-index (record { 0 = 0 }) in
    let e : blocks_room room a u (drop c.loop-block.block-index items) ≡ block_room room a u b + blocks_room room a u (drop (c.loop-block.block-index + 1) items) =
    ap (blocks_room room a u) (drop_more items c.loop-block.block-index (record { 0 = 0 }) c.loop-block-test.true) in (
      omega arith,
      (
        placed-at a u c.loop-block.block-index (record { 0 = 0 }) items c.blocks-block-items.ensures.sound c.args.view.in_place c.blocks-block-items.ensures.blocks c.loop-block-test.true,
        omega (arith, e, c.loop-block.invariant, c.requires),
      ),
    )

pub unit_room-loop-block-preserved : goal.unit_room-loop-block-preserved
unit_room-loop-block-preserved t c =
    let a = c.args.view.module.now in
    let u = c.args.view.unit.0 in
    let room = call_room c.args.depth a in
    let items = c.blocks-block-items.result.now in
    let b : BlockId = get_or items c.loop-block.block-index (record { 0 = 0 }) in
    let e : blocks_room room a u (drop c.loop-block.block-index items) ≡ block_room room a u b + blocks_room room a u (drop (c.loop-block.block-index + 1) items) =
    ap (blocks_room room a u) (drop_more items c.loop-block.block-index (record { 0 = 0 }) c.loop-block-test.true) in
    omega (arith, e, c.insts_room-calls.ensures, c.loop-block.invariant)

pub insts_room-loop-inst-preserved : goal.insts_room-loop-inst-preserved
insts_room-loop-inst-preserved t c =
    let a = c.args.view.module.now in
    let u = c.args.view.unit.0 in
    let room = call_room c.args.depth a in
    let items = c.insts-inst-items.result.now in
    let id : InstId = get_or items c.loop-inst.inst-index (record { 0 = 0 }) in
    let n : c.call_room-room.result ≡ room (callee_of a (inst_at a u id.0)) = c.call_room-room.ensures
    ∙ (λ i. call_room c.args.depth (c.module.ensures.module i) ((c.callee-function.ensures.callee ∙ ap (callee_of a) c.inst.ensures.inst) i)) in
    let e : insts_room room a u (drop c.loop-inst.inst-index items) ≡ room (callee_of a (inst_at a u id.0)) + insts_room room a u (drop (c.loop-inst.inst-index + 1) items) =
    ap (insts_room room a u) (drop_more items c.loop-inst.inst-index (record { 0 = 0 }) c.loop-inst-test.true) in
    omega (arith, e, n, c.loop-inst.invariant)
