-- Triggers that do not fire, told by the bits of the signals.
use Rattle.std.specs.Prelude.{◌≡◌, ◌⊎◌, ℕ, ◌+◌, List, [], ◌∷◌, slice_get, Bool, false, nat_eq, Option, Some}
use Rattle.std.specs.Option.{option_and_then}
use Rattle.lh_types.specs.declared.part.Range.{Range}
use Rattle.lh_unit.specs.Pass.{mode_holds}
use Rattle.lh_react.specs.declared.triggers.Gate.{Gate}
use Rattle.lh_react.specs.declared.triggers.Gate.TheVariants as gate
use Rattle.lh_react.specs.declared.triggers.TriggerBit.{TriggerBit}
use Rattle.lh_react.specs.State.{EntityState}
use Rattle.lh_react.specs.TriggerBits.{number_at, LiesIn}

-- two parts have different integers
pub record AreOther (now : List Bool) (left right : Range) : Type 0 where
  pub left_in : LiesIn now left
  pub right_in : LiesIn now right
  pub other : nat_eq (number_at now left) (number_at now right) ≡ false

-- a gate is known to be 0
abbrev pub GateIsShut : (now : List Bool) → Gate → Type 0
GateIsShut now gate.Unknown = ⊥
GateIsShut now (gate.Bit place) = slice_get now place ≡ Some false
GateIsShut now (gate.Same left right) = AreOther now left right

-- a trigger of this value does not fire: its mode does not hold, or its gate is 0
abbrev pub IsHeld : (now : List Bool) → (past : Option Bool) → Bool → TriggerBit → Type 0
IsHeld now past value b = (mode_holds b.mode past value ≡ false) ⊎ GateIsShut now b.gate

-- the value of the trigger of this number at the previous run
abbrev pub past_at : (memory : Option (List Bool)) → ℕ → Option Bool
past_at memory n = option_and_then (λ values. slice_get values n) memory

-- a trigger of this number has this value, and does not fire
pub record Rests (now : List Bool) (memory : Option (List Bool)) (n : ℕ) (b : TriggerBit) (value : Bool) : Type 0 where
  pub is : slice_get now b.at ≡ Some value
  pub held : IsHeld now (past_at memory n) value b

-- triggers from this number on have these values, and none fires
abbrev pub NoneFires : (now : List Bool) → (memory : Option (List Bool)) → ℕ → List TriggerBit → (values : List Bool) → Type 0
NoneFires now memory n [] [] = Unit {0}
NoneFires now memory n (b ∷ bs) (value ∷ values) = Rests now memory n b value × NoneFires now memory (n + 1) bs values
NoneFires now memory n _ _ = ⊥

-- a state is followed by this one in a pass in which its triggers, which are known, have these values and none fires
pub record IsQuiet (now : List Bool) (old new : EntityState) : Type 0 where
  pub bits : List TriggerBit
  pub values : List Bool
  pub known : old.triggers ≡ Some bits
  pub kept : new.triggers ≡ old.triggers
  pub seen : new.memory ≡ Some values
  pub rest : NoneFires now old.memory 0 bits values
