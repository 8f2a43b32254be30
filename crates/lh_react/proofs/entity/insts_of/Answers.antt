use Rattle.std.proofs.Common.{List, get_or, ap, ◌∙◌}
use Rattle.lh_unit.specs.Arena.{block_insts_at}
use Rattle.lh_unit.specs.Table.{entity_block}
use Rattle.lh_unit.specs.declared.inst.BlockId.{BlockId}
use Rattle.lh_eval.proofs.BeginSteps.{entity-blocks}
use Rattle.lh_react.proofs.entity.insts_of.Goals as goal

pub returns-clause-insts : goal.returns-clause-insts
returns-clause-insts c =
    let m = c.args.m.now in
    let u = c.args.unit.0 in
    c.insts.ensures.insts ∙ ap (λ (bs : List BlockId). block_insts_at m u (get_or bs 0 entity_block).0)
    (c.blocks-2.ensures.blocks ∙ entity-blocks m u c.blocks-2.ensures.sound c.requires.unit c.requires.entity)
