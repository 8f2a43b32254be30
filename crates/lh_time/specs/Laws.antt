-- What holds of due instants.
use Rattle.std.specs.Prelude.{IsTrue, Some, ◌≡◌}
use Rattle.lh_time.specs.declared.Instant.{Instant}
use Rattle.lh_time.specs.declared.Delay.{Delay}
use Rattle.lh_time.specs.Order.{instant_lt, instant_le}
use Rattle.lh_time.specs.Due.{due_of}

-- an instant that is due is later than its start
abbrev pub DueIsLater : Type 0
DueIsLater = (t u : Instant) (d : Delay) → due_of t d ≡ Some u → IsTrue (instant_lt t u)

-- of two starts, the one no later than the other has the due instant no later than the other's
abbrev pub DueKeepsOrder : Type 0
DueKeepsOrder = (s t u v : Instant) (d : Delay) → due_of s d ≡ Some u → due_of t d ≡ Some v → IsTrue (instant_le s t) → IsTrue (instant_le u v)
