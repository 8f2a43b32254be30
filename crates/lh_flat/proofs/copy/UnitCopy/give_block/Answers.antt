use Rattle.std.proofs.Common.{◌≡◌, ◌+◌, ◌++◌, drop, get_or, [], ap, sym, ◌∙◌, append_assoc}
use Rattle.std.proofs.lemmas.List.{drop_more}
use Rattle.lh_unit.specs.Arena.{inst_at}
use Rattle.lh_unit.specs.declared.inst.InstId.{InstId}
use Rattle.lh_flat.specs.Building.{insts_give, edge_given}
use Rattle.lh_flat.proofs.Loops.{edge-first}
use Rattle.lh_flat.proofs.copy.UnitCopy.give_block.Goals as goal

pub loop-id-preserved : goal.loop-id-preserved
loop-id-preserved c =
    let a = c.args.self.now.view.module.now in
    let u = c.args.self.now.view.unit.0 in
    let r = c.args.self.now.ids in
    let items = c.insts-id-items.result.now in
    let id : InstId = get_or items c.loop-id.id-index (record { 0 = 0 }) in
    let more = insts_give a u r c.args.block (drop (c.loop-id.id-index + 1) items) in
    let e : c.give.new.edges ≡ c.loop-id.edges ++ edge_given r c.args.block (inst_at a u id.0) [] = c.in_ok-give.ensures
    ∙ ap (λ i. c.loop-id.edges ++ edge_given r c.args.block i []) c.inst.ensures.inst in
    ap (λ es. es ++ more) e ∙ append_assoc c.loop-id.edges (edge_given r c.args.block (inst_at a u id.0) []) more
    ∙ ap (λ es. c.loop-id.edges ++ es) (sym (edge-first r c.args.block (inst_at a u id.0) more))
    ∙ ap (λ is. c.loop-id.edges ++ insts_give a u r c.args.block is) (sym (drop_more items c.loop-id.id-index (record { 0 = 0 }) c.loop-id-test.true)) ∙ c.loop-id.invariant
