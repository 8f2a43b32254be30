use Rattle.std.proofs.Common.{◌≡◌, List, length, take, None}
use Rattle.lh_types.specs.Raised.{raised}
use Rattle.lh_unit.specs.World.{State}
use Rattle.lh_unit.specs.Within.{Each}
use Rattle.lh_kernel.specs.States.{StatesStand}
use Rattle.lh_kernel.specs.Ran.{AllRan, ActOfOne}
use Rattle.lh_kernel.proofs.run.run_all.Given as goal

abbrev pub invariant-loop-instance : goal.invariant-loop-instance
invariant-loop-instance g l = record {
  ran : (ps : List State) → StatesStand l.m l.design.instances.items l.states ps → AllRan l.m l.now l.at l.design.instances.items ps (take l.instance-index l.woken) l.acts.items None;
  sound : Each (ActOfOne l.m (length l.now) l.at l.design.instances.items) l.acts.items;
  tally : g.T.Tally.count l.tally ≡ raised (g.T.Tally.count l.fn.tally) l.instance-index;
}
