-- What is noted when an instance is added or removed: signals that it senses, and an instant at which it wakes by itself.
use Rattle.std.specs.Prelude.{◌≡◌, ◌↔◌, ◌⊎◌, ℕ, List, length, Option, Some}
use Rattle.lh_time.specs.declared.Instant.{Instant}
use Rattle.lh_kernel_wakes.specs.Rising.{IsOneOf}
use Rattle.lh_kernel_wakes.specs.Sensed.{Senses}
use Rattle.lh_kernel_wakes.specs.Waking.{IsNoted}
use Rattle.lh_kernel.specs.declared.noted.Noted.{Noted}

-- all this is noted of the instance, beside what was
pub record HasNoted (k : ℕ) (signals : List ℕ) (wake : Option Instant) (old new : Noted) : Type 0 where
  pub long : length new.index ≡ length old.index
  pub senses : (s j : ℕ) → Senses new.index s j ↔ (((k ≡ j) × IsOneOf s signals) ⊎ Senses old.index s j)
  pub wakes : (t : Instant) (j : ℕ) → IsNoted new.wakes t j ↔ (((k ≡ j) × (wake ≡ Some t)) ⊎ IsNoted old.wakes t j)

-- some of it is
pub record HasNotedSome (k : ℕ) (signals : List ℕ) (wake : Option Instant) (old new : Noted) : Type 0 where
  pub long : length new.index ≡ length old.index
  pub senses : (s j : ℕ) → (Senses new.index s j → ((k ≡ j) × IsOneOf s signals) ⊎ Senses old.index s j) × (Senses old.index s j → Senses new.index s j)
  pub wakes : (t : Instant) (j : ℕ) → (IsNoted new.wakes t j → ((k ≡ j) × (wake ≡ Some t)) ⊎ IsNoted old.wakes t j) × (IsNoted old.wakes t j → IsNoted new.wakes t j)

-- nothing of it is noted any more
pub record HasForgotten (k : ℕ) (signals : List ℕ) (wake : Option Instant) (old new : Noted) : Type 0 where
  pub long : length new.index ≡ length old.index
  pub senses : (s j : ℕ) → Senses new.index s j ↔ (Senses old.index s j × ¬ ((k ≡ j) × IsOneOf s signals))
  pub wakes : (t : Instant) (j : ℕ) → IsNoted new.wakes t j ↔ (IsNoted old.wakes t j × ¬ ((k ≡ j) × (wake ≡ Some t)))
