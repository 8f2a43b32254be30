use Rattle.std.proofs.Common.{ap, sym, ◌∙◌}
use Rattle.lh_unit.specs.Arena.{table_at, label_count}
use Rattle.lh_unit.specs.ById.{blocks_led_to, last_led_to}
use Rattle.lh_verify_operands.specs.Leading.{led_to}
use Rattle.lh_verify_values.proofs.KnowingSteps.{on-ok}
use Rattle.lh_verify.proofs.PhiSteps.{one-more}
use Rattle.lh_unit.proofs.ByIdInsts.{last-led}
use Rattle.lh_verify.proofs.predecessors.put_block.Goals as goal

pub returns-in-Some : goal.returns-in-Some
returns-in-Some c = λ bs p.
    let t = table_at c.args.m.now c.args.unit.0 in
    on-ok c.put_edges.result _ _
    (λ a. one-more t bs c.args.block (label_count c.args.m.now c.args.unit.0) (led_to c.successors_of.result) c.args.rows.now c.put_edges.new.rows
    (c.successors_of.ensures ∙ ap blocks_led_to c.inst.ensures.inst ∙ last-led t c.insts.result.now c.in-Some.last.now (sym c.in-Some.ensures.value) ∙ ap (last_led_to t) c.insts.ensures.insts) p a)
    c.put_edges.ensures
