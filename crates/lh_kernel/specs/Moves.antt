-- What changes of who is noted where, when states are followed by others.
use Rattle.std.specs.Prelude.{◌≡◌, ◌≢◌, ◌↔◌, ◌⊎◌, ℕ, List, [], ◌∷◌, length, slice_get, Some}
use Rattle.lh_time.specs.declared.Instant.{Instant}
use Rattle.lh_types.specs.declared.part.Range.{Range}
use Rattle.lh_unit.specs.World.{bit_numbers}
use Rattle.lh_design.specs.declared.Signal.{Signal}
use Rattle.lh_kernel_wakes.specs.Rising.{IsOneOf}
use Rattle.lh_kernel_wakes.specs.Sensed.{Senses}
use Rattle.lh_kernel_wakes.specs.Waking.{IsNoted}
use Rattle.lh_kernel_changes.specs.Touched.{Touches, AreSignals, AreWithin}
use Rattle.lh_kernel_states.specs.declared.state.InstState.{InstState}
use Rattle.lh_kernel_states.specs.States.{parts_sensed, wake_kept}
use Rattle.lh_kernel.specs.declared.noted.Noted.{Noted}
use Rattle.lh_kernel.specs.declared.noted.Move.{Move}
use Rattle.lh_kernel.specs.declared.run.Activation.{Activation}

-- Of an instance of this number whose old state is followed by a new one: the signals that it comes to sense and those that it senses no more,
-- and when it comes to wake by itself and when no more.
pub record IsMove (signals : List Signal) (probes : List Range) (k : ℕ) (old new : InstState) (m : Move) : Type 0 where
  pub instance : m.instance ≡ k
  pub came : (s : ℕ) → IsOneOf s m.came ↔ (Touches signals (bit_numbers (parts_sensed new probes)) s × ¬ Touches signals (bit_numbers (parts_sensed old probes)) s)
  pub gone : (s : ℕ) → IsOneOf s m.gone ↔ (Touches signals (bit_numbers (parts_sensed old probes)) s × ¬ Touches signals (bit_numbers (parts_sensed new probes)) s)
  pub wake_came : (t : Instant) → (m.wake_came ≡ Some t) ↔ ((wake_kept new ≡ Some t) × (wake_kept old ≢ Some t))
  pub wake_gone : (t : Instant) → (m.wake_gone ≡ Some t) ↔ ((wake_kept old ≡ Some t) × (wake_kept new ≢ Some t))

-- the signals that have a bit of the one parts and none of the others, and the other way about
pub record AreBetween (signals : List Signal) (left entered : List Range) (came gone : List ℕ) : Type 0 where
  pub enters : (s : ℕ) → IsOneOf s came ↔ (Touches signals (bit_numbers entered) s × ¬ Touches signals (bit_numbers left) s)
  pub leaves : (s : ℕ) → IsOneOf s gone ↔ (Touches signals (bit_numbers left) s × ¬ Touches signals (bit_numbers entered) s)

-- what the instance of an activation sensed and will sense lies within so many bits
pub record SensesFit (width : ℕ) (probes : List (List Range)) (states : List InstState) (x : Activation) : Type 0 where
  pub probed : List Range
  pub state : InstState
  pub is_probed : slice_get probes x.instance ≡ Some probed
  pub is_kept : slice_get states x.instance ≡ Some state
  pub left : AreWithin width (parts_sensed state probed)
  pub entered : AreWithin width (parts_sensed x.act.next probed)

-- the move of the instance of an activation, from the state that was kept of it
pub record IsMoveOf (signals : List Signal) (probes : List (List Range)) (states : List InstState) (x : Activation) (m : Move) : Type 0 where
  pub probed : List Range
  pub state : InstState
  pub is_probed : slice_get probes x.instance ≡ Some probed
  pub is_kept : slice_get states x.instance ≡ Some state
  pub moves : IsMove signals probed x.instance state x.act.next m

-- the moves of activations, one by one
abbrev pub EachMoves : (signals : List Signal) → (probes : List (List Range)) → (states : List InstState) → List Activation → List Move → Type 0
EachMoves signals probes states [] [] = Unit {0}
EachMoves signals probes states (x ∷ xs) (m ∷ ms) = IsMoveOf signals probes states x m × EachMoves signals probes states xs ms
EachMoves signals probes states _ _ = ⊥

-- one of the moves is so
abbrev pub OneMove : (Move → Type 0) → List Move → Type 0
OneMove P [] = ⊥
OneMove P (m ∷ ms) = P m ⊎ OneMove P ms

-- a move has an instance come to a signal, or to an instant
abbrev pub ComesTo : List Move → (signal k : ℕ) → Type 0
ComesTo moves signal k = OneMove (λ (m : Move). (m.instance ≡ k) × IsOneOf signal m.came) moves

abbrev pub GoesFrom : List Move → (signal k : ℕ) → Type 0
GoesFrom moves signal k = OneMove (λ (m : Move). (m.instance ≡ k) × IsOneOf signal m.gone) moves

abbrev pub WakeComes : List Move → Instant → (k : ℕ) → Type 0
WakeComes moves t k = OneMove (λ (m : Move). (m.instance ≡ k) × (m.wake_came ≡ Some t)) moves

abbrev pub WakeGoes : List Move → Instant → (k : ℕ) → Type 0
WakeGoes moves t k = OneMove (λ (m : Move). (m.instance ≡ k) × (m.wake_gone ≡ Some t)) moves

-- what comes and goes by the ones does by the others
pub record MoveTheSame (all some : List Move) : Type 0 where
  pub comes : (signal k : ℕ) → ComesTo all signal k ↔ ComesTo some signal k
  pub goes : (signal k : ℕ) → GoesFrom all signal k ↔ GoesFrom some signal k
  pub wake_comes : (t : Instant) (k : ℕ) → WakeComes all t k ↔ WakeComes some t k
  pub wake_goes : (t : Instant) (k : ℕ) → WakeGoes all t k ↔ WakeGoes some t k

-- the moves of activations, of which some by which nothing comes or goes may be left out
pub record AreMoves (signals : List Signal) (probes : List (List Range)) (states : List InstState) (acts : List Activation) (moves : List Move) : Type 0 where
  pub all : List Move
  pub each : EachMoves signals probes states acts all
  pub same : MoveTheSame all moves

-- an instance senses and wakes by itself as before
pub record SensesAsBefore (old new : InstState) : Type 0 where
  pub parts : (probes : List Range) → parts_sensed new probes ≡ parts_sensed old probes
  pub wake : wake_kept new ≡ wake_kept old

-- the signals of moves are signals of the design
abbrev pub MovesKnown : (signals : List Signal) → List Move → Type 0
MovesKnown signals [] = Unit {0}
MovesKnown signals (m ∷ ms) = AreSignals signals m.came × AreSignals signals m.gone × MovesKnown signals ms

-- what moves come to was not noted
pub record AreFresh (moves : List Move) (n : Noted) : Type 0 where
  pub senses : (signal k : ℕ) → ComesTo moves signal k → ¬ Senses n.index signal k
  pub wakes : (t : Instant) (k : ℕ) → WakeComes moves t k → ¬ IsNoted n.wakes t k

-- what moves come to is noted beside what was
pub record HasEntered (moves : List Move) (old new : Noted) : Type 0 where
  pub long : length new.index ≡ length old.index
  pub senses : (signal k : ℕ) → Senses new.index signal k ↔ (ComesTo moves signal k ⊎ Senses old.index signal k)
  pub wakes : (t : Instant) (k : ℕ) → IsNoted new.wakes t k ↔ (WakeComes moves t k ⊎ IsNoted old.wakes t k)

-- some of what moves come to is noted beside what was
pub record HasEnteredSome (moves : List Move) (old new : Noted) : Type 0 where
  pub long : length new.index ≡ length old.index
  pub senses : (signal k : ℕ) → (Senses new.index signal k → ComesTo moves signal k ⊎ Senses old.index signal k) × (Senses old.index signal k → Senses new.index signal k)
  pub wakes : (t : Instant) (k : ℕ) → (IsNoted new.wakes t k → WakeComes moves t k ⊎ IsNoted old.wakes t k) × (IsNoted old.wakes t k → IsNoted new.wakes t k)

-- what moves go from is noted no more
pub record HasLeft (moves : List Move) (old new : Noted) : Type 0 where
  pub long : length new.index ≡ length old.index
  pub senses : (signal k : ℕ) → Senses new.index signal k ↔ (Senses old.index signal k × ¬ GoesFrom moves signal k)
  pub wakes : (t : Instant) (k : ℕ) → IsNoted new.wakes t k ↔ (IsNoted old.wakes t k × ¬ WakeGoes moves t k)

-- the same is noted
pub record IsSameNoted (old new : Noted) : Type 0 where
  pub long : length new.index ≡ length old.index
  pub senses : (signal k : ℕ) → Senses new.index signal k ↔ Senses old.index signal k
  pub wakes : (t : Instant) (k : ℕ) → IsNoted new.wakes t k ↔ IsNoted old.wakes t k
