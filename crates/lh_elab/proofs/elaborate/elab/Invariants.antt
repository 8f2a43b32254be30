use Rattle.lh_unit.specs.Arena.{contents}
use Rattle.lh_unit.specs.Hierarchy.{hierarchies}
use Rattle.lh_elab.specs.Elaborates.{ArePlans}
use Rattle.lh_elab.proofs.Underway.{Underway, counts}
use Rattle.lh_elab.proofs.Walks.{left}
use Rattle.lh_elab.proofs.ElaborationEnds.{final}
use Rattle.lh_elab.proofs.Connected.{Connected}
use Rattle.lh_elab.proofs.elaborate.elab.Given as goal

abbrev pub invariant-loop-next : goal.invariant-loop-next
invariant-loop-next l = record {
  underway : Underway l.m (hierarchies (contents l.m)) (final l.m l.fn.top.0) l.building;
  plans : ArePlans l.m l.plans;
  connected : Connected l.m l.building;
}

abbrev pub decreases-loop-next : goal.decreases-loop-next
decreases-loop-next l = left l.m (counts (hierarchies (contents l.m))) l.building.pending.items
