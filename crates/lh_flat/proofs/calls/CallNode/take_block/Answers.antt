use Rattle.std.proofs.Common.{◌≡◌, ◌+◌, drop, get_or, ap, sym, ◌∙◌}
use Rattle.std.proofs.lemmas.List.{drop_more}
use Rattle.lh_unit.specs.Arena.{inst_at}
use Rattle.lh_unit.specs.declared.inst.InstId.{InstId}
use Rattle.lh_flat.specs.Graph.{callee_of, with_inst, with_insts}
use Rattle.lh_flat.specs.declared.calls.CallNode.{CallNode}
use Rattle.lh_flat.proofs.calls.CallNode.take_block.Goals as goal

pub loop-inst-preserved : goal.loop-inst-preserved
loop-inst-preserved c =
    let a = c.args.view.module.now in
    let u = c.args.view.unit.0 in
    let items = c.insts-inst-items.result.now in
    let id : InstId = get_or items c.loop-inst.inst-index (record { 0 = 0 }) in
    let e : c.take.new.self ≡ with_inst c.loop-inst.self (callee_of a (inst_at a u id.0)) = c.in_ok-take.ensures
    ∙ ap (with_inst c.loop-inst.self) (c.callee.ensures.callee ∙ ap (callee_of a) c.inst.ensures.inst) in
    ap (λ (n : CallNode). with_insts a u n (drop (c.loop-inst.inst-index + 1) items)) e
    ∙ sym (ap (with_insts a u c.loop-inst.self) (drop_more items c.loop-inst.inst-index (record { 0 = 0 }) c.loop-inst-test.true)) ∙ c.loop-inst.invariant
