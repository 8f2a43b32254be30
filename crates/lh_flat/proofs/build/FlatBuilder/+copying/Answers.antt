use Rattle.std.proofs.Common.{◌≡◌, ◌+◌, ◌-◌, drop, get_or, OnOk, refl, ap, sym, ◌∙◌, subst, arith}
use Rattle.std.proofs.lemmas.List.{drop_all, drop_more}
use Rattle.lh_unit.specs.declared.inst.InstId.{InstId}
use Rattle.lh_unit.specs.declared.table.TableLine.{TableLine}
use Rattle.lh_flat.specs.declared.build.FlatBuilder.{FlatBuilder}
use Rattle.lh_flat.specs.Graph.{callee_of}
use Rattle.lh_unit.specs.Arena.{blocks_at, block_insts_at, inst_count}
use Rattle.lh_flat.specs.Room.{inner_values, call_values}
use Rattle.lh_flat.specs.Building.{line_of, unit_room, call_room, put, taken, line_added, insts_added, blocks_added, call_added}
use Rattle.lh_flat.proofs.CallGraph.{placed-at}
use Rattle.lh_flat.proofs.BuilderRoom.{call_added-none, call_added-is, copy_added}
use Rattle.lh_unit.proofs.ModuleLaws.{insts-at}
use Rattle.lh_flat.proofs.Rooms.{room-block, room-inst, room-call, room-less}
use Rattle.lh_flat.proofs.build.FlatBuilder.+copying.Goals as goal

pub add_call-returns-then-depth-eq0 : goal.add_call-returns-then-depth-eq0
add_call-returns-then-depth-eq0 t c =
    call_added-none c.args.depth c.args.copy.now.view.module.now c.args.function c.args.copy.now.ids (line_of c.args.copy.now.view.module.now c.args.copy.now.view.unit.0 c.args.id) c.args.self.now
    c.if-depth-eq0.true

pub add_call-returns : goal.add_call-returns
add_call-returns t c =
    let a = c.args.copy.now.view.module.now in
    let l = line_of a c.args.copy.now.view.unit.0 c.args.id in
    let r = c.args.copy.now.ids in
    let d = c.in_ok-called.called in
    let whole = call_added-is c.args.depth a d.view.module.now c.args.function d.view.unit r d.ids l c.args.self.now _ _ _ _ c.if-depth-eq0.false c.in_ok-called.ensures.of c.in_ok-called.ensures.unit
    c.in_ok-called.ensures.ids refl refl refl refl in
    subst (λ (x : FlatBuilder). OnOk c.add_copy-added.result (c.add_copy-added.new.self ≡ x)) whole c.add_copy-added.ensures

pub add_copy-returns : goal.add_copy-returns
add_copy-returns t c =
    copy_added c.args.depth c.args.called.now.view.unit.0 c.args.called.now.view.module.now c.args.called.now.ids _ _ _ _ _ _ c.merge-2.ensures c.in_ok-merge.ensures c.in_ok-add_unit.ensures
    c.in_ok-enter.ensures

pub add_unit-add_block-requires : goal.add_unit-add_block-requires
add_unit-add_block-requires t c = (
  omega arith,
  (
    placed-at c.args.copy.now.view.module.now c.args.copy.now.view.unit.0 c.loop-block.block-index (record { 0 = 0 }) c.blocks-block-items.result.now c.blocks-block-items.ensures.sound
        c.args.copy.now.view.in_place
        c.blocks-block-items.ensures.blocks c.loop-block-test.true,
    room-block c.args.copy.now.view.module.now c.args.depth c.args.copy.now.view.unit.0 c.args.copy.now.ids c.blocks-block-items.result.now c.loop-block.block-index (record { 0 = 0 })
        (blocks_at c.args.copy.now.view.module.now c.args.copy.now.view.unit.0) c.loop-block.self c.args.self.now c.loop-block-test.true c.requires c.loop-block.invariant,
  ),
)

pub add_block-add_inst-requires : goal.add_block-add_inst-requires
add_block-add_inst-requires t c = (
  omega arith,
  (
    insts-at (inst_count c.args.copy.now.view.module.now c.args.copy.now.view.unit.0) c.loop-id.id-index (record { 0 = 0 }) c.insts-id-items.result.now
        (block_insts_at c.args.copy.now.view.module.now c.args.copy.now.view.unit.0 c.args.block.0) c.loop-id-test.true c.insts-id-items.ensures.insts c.requires.placed.insts,
    room-inst c.args.copy.now.view.module.now c.args.depth c.args.copy.now.view.unit.0 c.args.copy.now.ids c.insts-id-items.result.now c.loop-id.id-index (record { 0 = 0 })
        (block_insts_at c.args.copy.now.view.module.now c.args.copy.now.view.unit.0 c.args.block.0) c.loop-id.self c.args.self.now c.loop-id-test.true c.requires.room c.loop-id.invariant,
  ),
)

pub add_call-copy_for-requires-clause-room : goal.add_call-copy_for-requires-clause-room
add_call-copy_for-requires-clause-room t c =
    let a = c.args.copy.now.view.module.now in
    let f = c.args.function in
    room-less c.args.self.now (unit_room (call_room (c.args.depth - 1) a) a f.0 + 1) (inst_count a f.0) (inner_values (call_values (c.args.depth - 1) a) a f.0)
    (room-call c.args.depth a a f f c.args.self.now c.if-depth-eq0.false refl refl c.requires.room)

pub add_call-add_copy-added-requires : goal.add_call-add_copy-added-requires
add_call-add_copy-added-requires t c = (
  omega arith,
  (
    c.requires.placed,
    room-call c.args.depth c.args.copy.now.view.module.now c.in_ok-called.called.view.module.now c.args.function c.in_ok-called.called.view.unit c.args.self.now c.if-depth-eq0.false
        c.in_ok-called.ensures.of c.in_ok-called.ensures.unit c.requires.room,
  ),
)

pub add_unit-loop-block-preserved : goal.add_unit-loop-block-preserved
add_unit-loop-block-preserved t c =
    let a = c.args.copy.now.view.module.now in
    let u = c.args.copy.now.view.unit.0 in
    let r = c.args.copy.now.ids in
    let items = c.blocks-block-items.result.now in
    ap (blocks_added (call_added c.args.depth a) a u r (drop (c.loop-block.block-index + 1) items)) c.in_ok-add_block.ensures
    ∙ sym (ap (λ bs. blocks_added (call_added c.args.depth a) a u r bs c.loop-block.self) (drop_more items c.loop-block.block-index (record { 0 = 0 }) c.loop-block-test.true)) ∙ c.loop-block.invariant

pub add_block-loop-id-preserved : goal.add_block-loop-id-preserved
add_block-loop-id-preserved t c =
    let a = c.args.copy.now.view.module.now in
    let u = c.args.copy.now.view.unit.0 in
    let r = c.args.copy.now.ids in
    let items = c.insts-id-items.result.now in
    let id : InstId = get_or items c.loop-id.id-index (record { 0 = 0 }) in
    let called = call_added c.args.depth a in
    let step : c.add_inst.new.self ≡ line_added called r (line_of a u id) (callee_of a (line_of a u id).inst) c.loop-id.self = c.in_ok-add_inst.ensures in
    ap (insts_added called a u r (drop (c.loop-id.id-index + 1) items)) step
    ∙ sym (ap (λ is. insts_added called a u r is c.loop-id.self) (drop_more items c.loop-id.id-index (record { 0 = 0 }) c.loop-id-test.true)) ∙ c.loop-id.invariant

pub add_block-returns : goal.add_block-returns
add_block-returns t c =
    let a = c.args.copy.now.view.module.now in
    let u = c.args.copy.now.view.unit.0 in
    let all = sym (ap (λ is. insts_added (call_added c.args.depth a) a u c.args.copy.now.ids is c.loop-id.self) (drop_all c.loop-id.id-index c.insts-id-items.result.now c.loop-id-test.false))
    ∙ c.loop-id.invariant in
    subst (λ (x : FlatBuilder). OnOk c.put.result (c.put.new.self ≡ put x)) all c.put.ensures

pub add_inst-returns-in_ok-inst-in-None : goal.add_inst-returns-in_ok-inst-in-None
add_inst-returns-in_ok-inst-in-None t c =
    let a = c.args.copy.now.view.module.now in
    let l : TableLine = line_of a c.args.copy.now.view.unit.0 c.args.id in
    let called = call_added c.args.depth a in
    let k : c.callee.result ≡ callee_of a l.inst = c.callee.ensures.callee ∙ ap (callee_of a) c.inst.ensures.inst in
    subst (λ (x : FlatBuilder). OnOk c.take.result (c.take.new.self ≡ x))
    (ap (λ x. taken x c.args.self.now) c.in_ok-inst-in-None.ensures ∙ ap (λ o. line_added called c.args.copy.now.ids l o c.args.self.now) (sym c.in-None.is ∙ k)) c.take.ensures

pub add_inst-returns-in-Some : goal.add_inst-returns-in-Some
add_inst-returns-in-Some t c =
    let a = c.args.copy.now.view.module.now in
    let l : TableLine = line_of a c.args.copy.now.view.unit.0 c.args.id in
    let called = call_added c.args.depth a in
    let k : c.callee.result ≡ callee_of a l.inst = c.callee.ensures.callee ∙ ap (callee_of a) c.inst.ensures.inst in
    subst (λ (x : FlatBuilder). OnOk c.add_call.result (c.add_call.new.self ≡ x)) (ap (λ o. line_added called c.args.copy.now.ids l o c.args.self.now) (sym c.in-Some.is ∙ k)) c.add_call.ensures
