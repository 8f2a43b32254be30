-- What contracts see of a simulation, and the worlds that it stands for.
use Rattle.std.specs.Prelude.{◌≡◌, List, Bool, false, Option}
use Rattle.lh_time.specs.declared.Instant.{Instant}
use Rattle.lh_types.specs.History.{claims}
use Rattle.lh_unit.specs.Arena.{Arena}
use Rattle.lh_unit.specs.World.{World, bits_of}
use Rattle.lh_queue.specs.Queued.{QueuedWish}
use Rattle.lh_queue.specs.Holds.{HoldsFor}
use Rattle.lh_design.specs.declared.Design.{Design}
use Rattle.lh_kernel_states.specs.declared.state.InstState.{InstState}
use Rattle.lh_kernel.specs.States.{StatesStand}
use Rattle.lh_kernel.specs.declared.machine.SimState.{SimState}

-- The module, the design, the bits of the last frame, before the first the initial ones, its instant, what is kept of each instance, the wishes that are still due, and whether a runaway has
-- ended the run.
pub record Simulation : Type 0 where
  pub arena : Arena
  pub design : Design
  pub bits : List Bool
  pub last : Option Instant
  pub states : List InstState
  pub held : List QueuedWish
  pub ended : Bool

abbrev pub simulation_of : SimState → (ended : Bool) → Simulation
simulation_of x ended = record {
  arena = x.«module».now;
  design = x.design;
  bits = x.bits;
  last = x.last;
  states = x.states.items;
  held = x.queue.held;
  ended = ended;
}

-- A simulation stands for a world where no runaway has ended it, and the instant of the last frame, the bits in it, the states of the instances and the wishes
-- that are due after it agree.
pub record StandsFor (s : Simulation) (w : World) : Type 0 where
  pub goes_on : s.ended ≡ false
  pub init : w.init ≡ s.design.init
  pub last : w.last ≡ s.last
  pub bits : bits_of w ≡ s.bits
  pub wishes : HoldsFor s.held (claims w.history) w.last
  pub states : StatesStand s.arena s.design.instances.items s.states w.states
