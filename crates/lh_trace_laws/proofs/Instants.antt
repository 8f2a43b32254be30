-- The order of instants.
use Rattle.std.proofs.Common.{◌≡◌, true, false, not, refl, ap, sym, ◌∙◌, Option, Some, None, IfSome}
use Rattle.lh_time.specs.declared.Instant.{Instant}
use Rattle.lh_time.specs.declared.Delay.{Delay}
use Rattle.lh_time.specs.Order.{instant_lt}
use Rattle.lh_time.specs.Due.{due_of}
use Rattle.lh_time.proofs.DueLemmas.{due_is_later}
use Rattle.lh_time.proofs.OrderLemmas.{instant_lt-not_le}
use Rattle.lh_history_laws.proofs.Instants.{le_self}

-- a due instant is later than its start
pub due_later : (t : Instant) (d : Delay) → IfSome (due_of t d) (λ u. instant_lt t u ≡ true)
due_later t d = at (due_of t d) refl
  where
    at : (o : Option Instant) → due_of t d ≡ o → IfSome o (λ u. instant_lt t u ≡ true)
    at None e = tt
    at (Some u) e = due_is_later t u d e

pub lt_self : (a : Instant) → instant_lt a a ≡ true → ⊥
lt_self a h = clash (sym h ∙ instant_lt-not_le a a ∙ ap not (le_self a))
  where
    clash : true ≡ false → ⊥
    clash z = cc
