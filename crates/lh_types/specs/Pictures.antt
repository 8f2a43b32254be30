-- What a frame shows, with the values of the language in place of the program's.
use Rattle.std.specs.Prelude.{ℕ, List, map}
use Rattle.lh_time.specs.declared.Instant.{Instant}
use Rattle.lh_types.specs.declared.frame.Change.{Change}
use Rattle.lh_types.specs.declared.frame.Outcome.{Outcome}
use Rattle.lh_types.specs.declared.frame.Frame.{Frame}
use Rattle.lh_types.specs.Values.{Datum}
use Rattle.lh_types.specs.ValueOf.{datum_of}

-- a signal by its number, how many of its bits differ from the frame before, and its value
pub record Showing : Type 0 where
  pub signal : ℕ
  pub toggled : ℕ
  pub value : Datum

-- an instant, the signals that are shown at it, and the outcomes of assertions
pub record Picture : Type 0 where
  pub at : Instant
  pub changes : List Showing
  pub outcomes : List Outcome

-- what a change shows
abbrev pub showing_of : Change → Showing
showing_of c = record { signal = c.signal; toggled = c.toggled; value = datum_of c.value }

-- what an instant, changes and outcomes show
abbrev pub pictured : Instant → List Change → List Outcome → Picture
pictured at changes outcomes = record { at = at; changes = map showing_of changes; outcomes = outcomes }

-- what a frame shows
abbrev pub picture : Frame → Picture
picture f = pictured f.at f.changes f.outcomes
