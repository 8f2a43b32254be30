-- What holds of each state of a process that fits: it stands for some state, and what it waits for is what that waits for.
use Rattle.std.specs.Prelude.{◌≡◌, ℕ, List, [], Option, Some, None}
use Rattle.lh_time.specs.declared.Instant.{Instant}
use Rattle.lh_types.specs.declared.part.Range.{Range}
use Rattle.lh_unit.specs.Activation.{ProcessState}
use Rattle.lh_unit.specs.World.{waited, wake_at}
use Rattle.lh_unit.specs.Arena.{Arena}
use Rattle.lh_exec.specs.declared.state.WaitOn.{WaitOn}
use Rattle.lh_exec.specs.declared.state.ProcState.{ProcState}
use Rattle.lh_exec.specs.States.{StandsForState, ProcStateFits, PartsWithin, waited_on}

-- the parts for which a process waits, none where it does not wait
abbrev pub parts_of : Option WaitOn → List Range
parts_of None = []
parts_of (Some on) = on.parts

-- when it wakes by itself
abbrev pub wake_of : Option WaitOn → Option Instant
wake_of None = None
wake_of (Some on) = on.wake

-- Each state that fits stands for some state.
abbrev pub FittingStands : Type 0
FittingStands = (a : Arena) (u width : ℕ) (args : List Range) (s : ProcState) → ProcStateFits a u width s → (p : ProcessState) × StandsForState a u args s p

-- A state waits for the parts, and until the instant, for which what it stands for does.
abbrev pub WaitsAsHeld : Type 0
WaitsAsHeld = (a : Arena) (u : ℕ) (args : List Range) (s : ProcState) (p : ProcessState) → StandsForState a u args s p → (parts_of (waited_on s) ≡ waited p.stand)
    × (wake_of (waited_on s) ≡ wake_at p.stand)

-- A state that fits waits for parts within the signals.
abbrev pub WaitsWithin : Type 0
WaitsWithin = (a : Arena) (u width : ℕ) (s : ProcState) → ProcStateFits a u width s → PartsWithin width (parts_of (waited_on s))
