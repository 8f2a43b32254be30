use Rattle.std.proofs.Common.{◌∙◌, ap, arith}
use Rattle.std.proofs.lemmas.Grind.{common_steps}
use Rattle.std.proofs.lemmas.List.{take_all}
use Rattle.lh_region.specs.Taken.{phi_asks}
use Rattle.lh_region.proofs.taking.phi_asks.Goals as goal

pub loop-edge-preserved : goal.loop-edge-preserved
loop-edge-preserved c = grind (arith, common_steps)

pub returns : goal.returns
returns c = c.loop-edge.invariant ∙ ap (phi_asks c.args.operands.now) (take_all c.loop-edge.edge-index c.args.edges.now c.loop-edge-test.false)
