-- Which signals the wishes due at an instant may change.
use Rattle.std.specs.Prelude.{◌≡◌, ℕ, List, [], ◌∷◌, Bool, length, Option, Some, None}
use Rattle.lh_time.specs.declared.Instant.{Instant}
use Rattle.lh_types.specs.History.{values_by}
use Rattle.lh_queue.specs.Queued.{QueuedWish}
use Rattle.lh_queue.specs.Holds.{entries}
use Rattle.lh_queue.specs.declared.queue.Bucket.{Bucket}
use Rattle.lh_design.specs.declared.Signal.{Signal}
use Rattle.lh_kernel_changes.specs.Touched.{AreSignals, OthersStay}

-- the first key of the first bucket
abbrev pub first_in : List Bucket → Option ℕ
first_in [] = None
first_in (b ∷ more) = Some b.first

-- the bits at an instant at which held wishes are due, from the bits before
abbrev pub bits_then : List QueuedWish → Instant → (before : List Bool) → List Bool
bits_then held t before = values_by (entries held) t 0 before

-- these are signals, and whatever the bits before are, no other signal differs at the instant
pub record MayChange (signals : List Signal) (width : ℕ) (held : List QueuedWish) (t : Instant) (touched : List ℕ) : Type 0 where
  pub known : AreSignals signals touched
  pub others : (bits : List Bool) → length bits ≡ width → OthersStay signals touched bits (bits_then held t bits)
