use Rattle.lh_elab.proofs.InstanceGraph.{entity-insts}
use Rattle.lh_unit.specs.Arena.{inst_count}
use Rattle.lh_unit.proofs.ModuleLaws.{insts-at}
use Rattle.lh_elab.proofs.graph.entity_node.Goals as goal

pub inst-requires-clause-inst : goal.inst-requires-clause-inst
inst-requires-clause-inst c =
    insts-at (inst_count c.args.m.now c.args.unit.0) c.loop-inst.inst-index (record { 0 = 0 }) c.insts-inst-items.result.now _ c.loop-inst-test.true c.insts-inst-items.ensures.insts
    (entity-insts c.args.m.now c.args.unit.0 c.requires.sound c.requires.unit c.requires.entity)
