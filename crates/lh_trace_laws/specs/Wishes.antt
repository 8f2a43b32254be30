-- Wishes as maps.
use Rattle.std.specs.Prelude.{◌≡◌, ℕ, List, [], ◌∷◌, length, Bool, true, if◌then◌else◌, Option, Some, None}
use Rattle.std.specs.Ordering.{is_eq}
use Rattle.lh_time.specs.declared.Instant.{Instant}
use Rattle.lh_time.specs.Order.{instant_lt, instant_le}
use Rattle.lh_types.specs.Wish.{DueBit, due_bit_cmp, Wish, with_drive}
pub use Rattle.lh_types.specs.Wish.{IsBelow, IsInOrder}
use Rattle.lh_types.specs.History.{Claim, claims, IsAmong}
use Rattle.lh_unit.specs.Contents.{UnitText, ItemText}
use Rattle.lh_unit.specs.Hierarchy.{Instance}
use Rattle.lh_unit.specs.Design.{Design}
use Rattle.lh_unit.specs.World.{State, Moment, act, Rules, World, first_world, next_world, next_instant}
use Rattle.lh_trace_laws.specs.Values.{OneEach}

-- what a wish gives for a bit at an instant
abbrev pub look : DueBit → Wish → Option Bool
look k [] = None
look k (e ∷ more) = if is_eq (due_bit_cmp k e.0) then Some e.1 else look k more

-- each entry is due after t
abbrev pub IsLate : Instant → Wish → Type 0
IsLate t [] = Unit {0}
IsLate t (e ∷ more) = (instant_lt t e.0.due ≡ true) × IsLate t more

-- Wishes that give the same everywhere are one.
abbrev pub WishExt : Type 0
WishExt = (v w : Wish) → IsInOrder v → IsInOrder w → ((k : DueBit) → look k v ≡ look k w) → v ≡ w

-- A drive replaces an earlier one of the same bits at the same instant.
abbrev pub LaterDriveReplaces : Type 0
LaterDriveReplaces = (w : Wish) (due : Option Instant) (lo : ℕ) (xs ys : List Bool) → IsInOrder w → length xs ≡ length ys →
    with_drive (with_drive w due lo xs) due lo ys ≡ with_drive w due lo ys

-- What an instance wishes in a frame is in order, and due later.
abbrev pub ActsInOrder : Type 0
ActsInOrder = (r : Rules) (m : Moment) (u : UnitText) (i : Instance) (s : State) → IsInOrder (act r m u i s).wish × IsLate m.at (act r m u i s).wish

-- the worlds that frames come to from a world
pub data ReachedFrom (bound : ℕ) (items : List ItemText) (d : Design) (from : World) : World → Type 0 where
  at_start : ReachedFrom bound items d from from
  after_frame : (w : World) (t : Instant) → ReachedFrom bound items d from w → next_instant w ≡ Some t → ReachedFrom bound items d from (next_world bound items d w t)

-- an entry was made at the last frame or before it; before the first frame there is none
abbrev pub IsMadeByFrame : (last : Option Instant) → Claim → Type 0
IsMadeByFrame None c = ⊥
IsMadeByFrame (Some l) c = instant_le c.made l ≡ true

-- no two entries of a world's history compete, and none was made later than its last frame
pub record HistoryIsSound (w : World) : Type 0 where
  pub one_each : OneEach (claims w.history)
  pub made : (c : Claim) → IsAmong c (claims w.history) → IsMadeByFrame w.last c

-- It is so of the first world of a design.
abbrev pub FirstHistoryIsSound : Type 0
FirstHistoryIsSound = (items : List ItemText) (d : Design) → HistoryIsSound (first_world items d)

-- Every frame keeps it, from whichever world the frames begin.
abbrev pub HistoryStaysSound : Type 0
HistoryStaysSound = (bound : ℕ) (items : List ItemText) (d : Design) (from w : World) → HistoryIsSound from → ReachedFrom bound items d from w → HistoryIsSound w
