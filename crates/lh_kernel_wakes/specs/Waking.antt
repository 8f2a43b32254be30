-- When instances wake by themselves.
use Rattle.std.specs.Prelude.{ℕ, List, [], ◌∷◌, true, if◌then◌else◌, Option, Some, None, ◌≡◌, ◌⊎◌, ◌↔◌}
use Rattle.lh_time.specs.declared.Instant.{Instant}
use Rattle.lh_time.specs.Order.{instant_le, instant_eq}
use Rattle.lh_kernel_wakes.specs.Rising.{IsOneOf, IsRising}
use Rattle.lh_kernel_wakes.specs.declared.wakes.Wake.{Wake}

-- it is noted that the instance wakes by itself at the instant
abbrev pub IsNoted : List Wake → Instant → (instance : ℕ) → Type 0
IsNoted [] t k = ⊥
IsNoted (w ∷ more) t k = ((w.at ≡ t) × (w.instance ≡ k)) ⊎ IsNoted more t k

-- with one wake more
abbrev pub NotesOneMore : (old : List Wake) → Instant → (instance : ℕ) → (new : List Wake) → Type 0
NotesOneMore old t n new = (u : Instant) (k : ℕ) → IsNoted new u k ↔ (((t ≡ u) × (n ≡ k)) ⊎ IsNoted old u k)

-- with one wake less
abbrev pub NotesOneLess : (old : List Wake) → Instant → (instance : ℕ) → (new : List Wake) → Type 0
NotesOneLess old t n new = (u : Instant) (k : ℕ) → IsNoted new u k ↔ (IsNoted old u k × ¬ ((t ≡ u) × (n ≡ k)))

-- The soonest instant at which an instance wakes by itself, and none where none does.
abbrev pub IsSoonest : List Wake → Option Instant → Type 0
IsSoonest wakes None = (t : Instant) (k : ℕ) → ¬ IsNoted wakes t k
IsSoonest wakes (Some t) = ((k : ℕ) × IsNoted wakes t k) × ((u : Instant) (k : ℕ) → IsNoted wakes u k → instant_le t u ≡ true)

-- the instances of the first wakes that are at this instant
abbrev pub first_at : Instant → List Wake → List ℕ
first_at t [] = []
first_at t (w ∷ more) = if instant_eq w.at t then w.instance ∷ first_at t more else []

-- exactly the instances that wake by themselves at the instant, rising
pub record AreDue (wakes : List Wake) (t : Instant) (due : List ℕ) : Type 0 where
  pub rising : IsRising due
  pub all : (k : ℕ) → IsOneOf k due ↔ IsNoted wakes t k
