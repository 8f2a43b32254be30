-- Entries of a history that are level in its order.
use Rattle.std.specs.Prelude.{◌≡◌}
use Rattle.std.specs.declared.cmp.Ordering.TheVariants.{Equal}
use Rattle.lh_time.specs.declared.Instant.{Instant}
use Rattle.lh_time.specs.Order.{instant_cmp}
use Rattle.lh_types.specs.History.{Claim, claim_cmp}

-- they were made by one instance, at one instant and for one instant
pub record MadeTogether (c d : Claim) : Type 0 where
  pub due : c.due ≡ d.due
  pub made : c.made ≡ d.made
  pub instance : c.instance ≡ d.instance

-- Instants that compare as equal are one.
abbrev pub EqualInstantsAreOne : Type 0
EqualInstantsAreOne = (s t : Instant) → instant_cmp s t ≡ Equal → s ≡ t

-- Entries that compare as equal were made together.
abbrev pub LevelAreMadeTogether : Type 0
LevelAreMadeTogether = (c d : Claim) → claim_cmp c d ≡ Equal → MadeTogether c d
