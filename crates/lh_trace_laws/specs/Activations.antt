-- An activation is what its computing form finds, and there is at most one.
use Rattle.std.specs.Prelude.{◌≡◌, ◌↔◌, ℕ, Some, None}
use Rattle.lh_unit.specs.Contents.{UnitText}
use Rattle.lh_unit.specs.Activation.{Scene, ProcessState, Activated, IsActivation, activate}

-- The relation and the computing form say the same.
abbrev pub ActivationComputes : Type 0
ActivationComputes = (bound : ℕ) (s : Scene) (u : UnitText) (p : ProcessState) (done : Activated) → IsActivation bound s u p done ↔ (activate bound s u p ≡ Some done)

-- A runaway is where there is no activation.
abbrev pub RunawayComputes : Type 0
RunawayComputes = (bound : ℕ) (s : Scene) (u : UnitText) (p : ProcessState) → (activate bound s u p ≡ None) ↔ ((done : Activated) → ¬ IsActivation bound s u p done)

-- There is at most one activation.
abbrev pub OneActivation : Type 0
OneActivation = (bound : ℕ) (s : Scene) (u : UnitText) (p : ProcessState) (a b : Activated) → IsActivation bound s u p a → IsActivation bound s u p b → a ≡ b
