-- What an entity keeps between its runs.
use Rattle.std.specs.Prelude.{List, Bool, true, false, Option, Some, None}
use Rattle.std.specs.Rc.{rc_value}
use Rattle.lh_react.specs.declared.triggers.TriggerBit.{TriggerBit}
use Rattle.lh_react.specs.declared.state.Known.{Known}
use Rattle.lh_react.specs.declared.state.Stage.{Stage}
use Rattle.lh_react.specs.declared.state.Stage.TheVariants.{New, First, Second}

-- the value of each trigger at the last run, none before the first; and the bits that the triggers are, where they are known
pub record EntityState : Type 0 where
  pub memory : Option (List Bool)
  pub triggers : Option (List TriggerBit)

-- the first values that are kept, or the second
abbrev pub values_of : Known → (second : Bool) → List Bool
values_of k false = k.first
values_of k true = k.second

-- the state after a run in which the triggers had these values
abbrev pub state_of : Known → (second : Bool) → EntityState
state_of k second = record { memory = Some (values_of k second); triggers = k.triggers }

-- the state of an entity at this stage
abbrev pub state_at : Stage → EntityState
state_at New = record { memory = None; triggers = None }
state_at (First k) = state_of (rc_value k) false
state_at (Second k) = state_of (rc_value k) true
