-- What one run of an instance gives, as it is kept.
use Rattle.std.specs.Prelude.{ℕ, List, [], Bool, Option, Some, None}
use Rattle.std.specs.Global.{Box}
use Rattle.lh_time.specs.declared.Instant.{Instant}
use Rattle.lh_kernel_states.specs.declared.state.InstState.{InstState}

-- the next state, what is wished by the instants at which it is due, and whether each assertion passed
pub record ActDone : Type 0 where
  pub next : InstState
  pub wishes : List (Instant × List (ℕ × Bool))
  pub outcomes : List Bool

-- the outcomes, of which nothing is kept where there are none
abbrev pub outcomes_of : Option (Box (List Bool)) → List Bool
outcomes_of None = []
outcomes_of (Some outcomes) = outcomes.value

-- what is kept of it
abbrev pub done_of : InstState → List (Instant × List (ℕ × Bool)) → Option (Box (List Bool)) → ActDone
done_of next wishes outcomes = record { next = next; wishes = wishes; outcomes = outcomes_of outcomes }
