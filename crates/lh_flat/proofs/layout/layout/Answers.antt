use Rattle.std.proofs.Common.{◌≡◌, ℕ, ◌+◌, drop, get_or, set, replicate, ap, sym, ◌∙◌, arith}
use Rattle.std.proofs.lemmas.List.{drop_all, drop_more}
use Rattle.lh_unit.specs.Arena.{block_insts_at}
use Rattle.lh_unit.specs.declared.inst.BlockId.{BlockId}
use Rattle.lh_flat.specs.Building.{call_room, insts_room, blocks_room, spans_with, span_at}
use Rattle.lh_flat.specs.Renames.{no_span}
use Rattle.lh_flat.proofs.CallGraph.{placed-at}
use Rattle.lh_flat.proofs.layout.layout.Goals as goal

pub insts_room-requires-clause-placed : goal.insts_room-requires-clause-placed
insts_room-requires-clause-placed c =
    placed-at c.args.view.module.now c.args.view.unit.0 c.loop-block.block-index (record { 0 = 0 }) c.blocks-block-items.result.now c.blocks-block-items.ensures.sound c.args.view.in_place
    c.blocks-block-items.ensures.blocks c.loop-block-test.true

pub loop-block-init : goal.loop-block-init
loop-block-init c =
    let a = c.args.view.module.now in
    let u = c.args.view.unit.0 in
    record {
      spans = λ i. spans_with (call_room c.args.depth a) a u c.args.at (c.blocks-block-items.ensures.blocks i) ((c.in_ok-spans.ensures ∙ ap (λ n. replicate n no_span) c.labels.ensures.count) i);
      room = ap (λ bs. c.args.at + blocks_room (call_room c.args.depth a) a u bs) c.blocks-block-items.ensures.blocks;
    }

pub loop-block-preserved : goal.loop-block-preserved
loop-block-preserved c =
    let a = c.args.view.module.now in
    let u = c.args.view.unit.0 in
    let room = call_room c.args.depth a in
    let items = c.blocks-block-items.result.now in
    let b : BlockId = get_or items c.loop-block.block-index (record { 0 = 0 }) in
    let x : ℕ = insts_room room a u (block_insts_at a u b.0) in
    let l : c.loop-block.next + c.insts_room.result ≡ c.loop-block.next + x = ap (λ n. c.loop-block.next + n) c.insts_room.ensures in
    let n : c.loop-block.next + c.insts_room.result + 1 ≡ c.loop-block.next + (x + 1) = ap (λ k. k + 1) l ∙ omega arith in
    let s : c.set_span.new.spans.items ≡ set c.loop-block.spans.items b.0 (span_at c.loop-block.next x) = c.set_span.ensures
    ∙ ap (λ k. set c.loop-block.spans.items b.0 (record { first = record { 0 = c.loop-block.next }; last = record { 0 = k } })) l in
    record {
      spans = (λ i. spans_with room a u (n i) (drop (c.loop-block.block-index + 1) items) (s i))
          ∙ sym (ap (λ bs. spans_with room a u c.loop-block.next bs c.loop-block.spans.items) (drop_more items c.loop-block.block-index (record { 0 = 0 }) c.loop-block-test.true))
          ∙ c.loop-block.invariant.spans;
      room = (let e : blocks_room room a u (drop c.loop-block.block-index items) ≡ x + 1 + blocks_room room a u (drop (c.loop-block.block-index + 1) items) =
          ap (blocks_room room a u) (drop_more items c.loop-block.block-index (record { 0 = 0 }) c.loop-block-test.true) in omega (arith, e, n, c.loop-block.invariant.room));
    }

pub returns : goal.returns
returns c =
    let a = c.args.view.module.now in
    let u = c.args.view.unit.0 in
    c.from_vec.ensures
    ∙ sym (ap (λ bs. spans_with (call_room c.args.depth a) a u c.loop-block.next bs c.loop-block.spans.items) (drop_all c.loop-block.block-index c.blocks-block-items.result.now c.loop-block-test.false))
    ∙ c.loop-block.invariant.spans
