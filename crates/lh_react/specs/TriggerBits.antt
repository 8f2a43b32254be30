-- Which bits of the signals the triggers of an entity are.
use Rattle.std.specs.Prelude.{◌≡◌, ℕ, ◌+◌, ◌≤◌, List, [], ◌∷◌, ◌++◌, length, slice_get, Bool, nat_eq, Option, Some, None}
use Rattle.lh_types.specs.Bits.{bits_number}
use Rattle.lh_types.specs.Parts.{bits_within}
use Rattle.lh_types.specs.declared.part.Range.{Range}
use Rattle.lh_unit.specs.Contents.{OperandText, TriggerText, InstText, drv_text, reg_text, LineText, UnitText}
use Rattle.lh_unit.specs.Held.{Env}
use Rattle.lh_unit.specs.Hierarchy.{lines_of}
use Rattle.lh_unit.specs.Within.{Each}
use Rattle.lh_react.specs.declared.triggers.Gate.{Gate}
use Rattle.lh_react.specs.declared.triggers.Gate.TheVariants as gate
use Rattle.lh_react.specs.declared.triggers.TriggerBit.{TriggerBit}
use Rattle.lh_react.specs.Quiet.{BeginsBy, IsProbedBit, IsProbedInt, AreCompared, IsComparedBit}

-- the number of a part, where the signals have these bits
abbrev pub number_at : (now : List Bool) → Range → ℕ
number_at now r = bits_number (bits_within r.lo r.len now)

-- the part lies within these bits
abbrev pub LiesIn : (now : List Bool) → Range → Type 0
LiesIn now r = r.lo + r.len ≤ length now

-- In each pass of an entity whose arguments have these ranges, the value of this name is the bit at this place.
abbrev pub IsBitAt : UnitText → (args : List Range) → (n : List ℕ) → (place : ℕ) → Type 0
IsBitAt u args n place = (now : List Bool) (e : Env) (b : Bool) → slice_get now place ≡ Some b → BeginsBy u args e → IsProbedBit u now e n b

-- In each it is the integer of this part.
abbrev pub IsIntAt : UnitText → (args : List Range) → (n : List ℕ) → Range → Type 0
IsIntAt u args n r = (now : List Bool) (e : Env) → LiesIn now r → BeginsBy u args e → IsProbedInt u now e n r.len (number_at now r)

-- In each it is whether the integers of these parts are the same.
abbrev pub IsSameAt : UnitText → (args : List Range) → (n : List ℕ) → (left right : Range) → Type 0
IsSameAt u args n left right = (now : List Bool) (e : Env) → LiesIn now left → LiesIn now right → BeginsBy u args e → IsComparedBit u now e n (nat_eq (number_at now left) (number_at now right))

-- In each two operands are the integers of these parts, which are compared.
abbrev pub AreSameAt : UnitText → (args : List Range) → (operands : List OperandText) → (left right : Range) → Type 0
AreSameAt u args operands left right = (now : List Bool) (e : Env) → LiesIn now left → LiesIn now right → BeginsBy u args e → AreCompared u now e operands (nat_eq (number_at now left) (number_at now right))

-- what is known of a gate is so
abbrev pub GateIs : UnitText → (args : List Range) → Option (List ℕ) → Gate → Type 0
GateIs u args n gate.Unknown = Unit {0}
GateIs u args None (gate.Bit place) = ⊥
GateIs u args (Some n) (gate.Bit place) = IsBitAt u args n place
GateIs u args None (gate.Same left right) = ⊥
GateIs u args (Some n) (gate.Same left right) = IsSameAt u args n left right

-- a trigger is this bit, with this mode and this gate
pub record IsTriggerBit (u : UnitText) (args : List Range) (g : TriggerText) (b : TriggerBit) : Type 0 where
  pub mode : b.mode ≡ g.mode
  pub bit : IsBitAt u args g.trigger b.at
  pub gate : GateIs u args g.gate b.gate

-- the same of each, in order
abbrev pub AreTriggerBits : UnitText → (args : List Range) → List TriggerText → List TriggerBit → Type 0
AreTriggerBits u args [] [] = Unit {0}
AreTriggerBits u args (g ∷ gs) (b ∷ bs) = IsTriggerBit u args g b × AreTriggerBits u args gs bs
AreTriggerBits u args _ _ = ⊥

-- the triggers of an instruction
abbrev pub triggers_by : InstText → List TriggerText
triggers_by (reg_text to triggers) = triggers
triggers_by _ = []

-- the triggers of these instructions, in text order
abbrev pub triggers_of : List LineText → List TriggerText
triggers_of [] = []
triggers_of (l ∷ more) = triggers_by l.inst ++ triggers_of more

-- only a register drives
abbrev pub IsNoDrive : InstText → Type 0
IsNoDrive (drv_text to value after cond) = ⊥
IsNoDrive _ = Unit {0}

-- an instruction is no drive, and behind bits for some triggers stand those of its own
pub record AddsTriggers (u : UnitText) (args : List Range) (i : InstText) (old new : List TriggerBit) : Type 0 where
  pub no_drive : IsNoDrive i
  pub more : (before : List TriggerText) → AreTriggerBits u args before old → AreTriggerBits u args (before ++ triggers_by i) new

-- An entity whose arguments have these ranges drives by its registers alone, and these are all its triggers.
pub record HasTriggers (u : UnitText) (args : List Range) (bits : List TriggerBit) : Type 0 where
  pub no_drive : Each (λ (l : LineText). IsNoDrive l.inst) (lines_of u.blocks)
  pub all : AreTriggerBits u args (triggers_of (lines_of u.blocks)) bits

-- the same, where they are known
abbrev pub TriggersFit : UnitText → (args : List Range) → Option (List TriggerBit) → Type 0
TriggersFit u args None = Unit {0}
TriggersFit u args (Some bits) = HasTriggers u args bits
