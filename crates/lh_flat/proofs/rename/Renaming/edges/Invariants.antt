use Rattle.std.proofs.Common.{◌≡◌, ◌<◌, ◌++◌, drop, length, map}
use Rattle.lh_unit.specs.Within.{Each}
use Rattle.lh_unit.specs.declared.inst.PhiEdge.{PhiEdge}
use Rattle.lh_flat.specs.Renames.{edge_in}
use Rattle.lh_flat.proofs.rename.Renaming.edges.Given as goal

abbrev pub invariant-loop-edge : goal.invariant-loop-edge
invariant-loop-edge l = record {
  same : l.to ++ map (edge_in l.self) (drop l.edge-index l.items) ≡ map (edge_in l.self) l.items;
  within : Each (λ (e : PhiEdge). e.value.0 < length l.self.values) (drop l.edge-index l.items);
}
