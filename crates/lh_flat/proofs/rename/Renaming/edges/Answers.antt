use Rattle.std.proofs.Common.{◌<◌, length}
use Rattle.lh_unit.specs.declared.inst.PhiEdge.{PhiEdge}
use Rattle.lh_unit.proofs.Lists.{Each-next}
use Rattle.lh_flat.specs.Renames.{edge_in}
use Rattle.lh_flat.proofs.Loops.{mapped-next}
use Rattle.lh_flat.proofs.rename.Renaming.edges.Goals as goal

pub loop-edge-preserved : goal.loop-edge-preserved
loop-edge-preserved c = record {
  same = mapped-next (edge_in c.args.self.now) c.loop-edge.to c.push.new.self c.as_slice-items.result.now c.loop-edge.edge-index (record { value = record { 0 = 0 }; block = record { 0 = 0 } }) c.edge.result c.loop-edge-test.true c.in_ok-push.ensures.ok (c.edge.ensures) c.loop-edge.invariant.same;
  within = Each-next (λ (e : PhiEdge). e.value.0 < length c.args.self.now.values) c.as_slice-items.result.now c.loop-edge.edge-index (record { value = record { 0 = 0 }; block = record { 0 = 0 } }) c.loop-edge-test.true c.loop-edge.invariant.within;
}
