-- What holds of passes in which no register is driven: probes of arguments, what compares them, and triggers that do not fire.
use Rattle.std.specs.Prelude.{◌≡◌, ◌⊎◌, ℕ, List, [], ◌∷◌, Bool, true, false, ◌&&◌, nat_eq, Option, Some, None}
use Rattle.std.specs.Option.{option_and_then}
use Rattle.lh_types.specs.Wish.{no_wish}
use Rattle.lh_types.specs.Values.{int_value}
use Rattle.lh_types.specs.declared.op.Op.TheVariants as op
use Rattle.lh_types.specs.declared.part.Range.{Range}
use Rattle.lh_unit.specs.Contents.{OperandText, TriggerText, prb_text, pure_text, UnitText, args_define}
use Rattle.lh_unit.specs.Typing.{line_giving}
use Rattle.lh_unit.specs.Held.{Held, datum_held, Env, as_datum, as_test, datum_at, part_at, test_at}
use Rattle.lh_unit.specs.Effects.{probed}
use Rattle.lh_unit.specs.Hierarchy.{lines_of, parts_of}
use Rattle.lh_unit.specs.Pass.{Passed, mode_holds}

-- the truth value that is held, if one is
abbrev pub test_of : Option Held → Option Bool
test_of h = option_and_then as_test (option_and_then as_datum h)

-- A value of an entity that is what a `prb` of an argument gives.
pub record IsProbe (u : UnitText) (n : List ℕ) (signal : OperandText) : Type 0 where
  pub given : line_giving n (lines_of u.blocks) ≡ Some (prb_text signal)
  pub argument : args_define signal.value u.args ≡ true

-- The value of this name is such a one, and gives this truth value where the arguments are held so.
pub record IsProbedBit (u : UnitText) (now : List Bool) (begun : Env) (n : List ℕ) (b : Bool) : Type 0 where
  pub signal : OperandText
  pub probe : IsProbe u n signal
  pub bit : test_of (probed now begun signal) ≡ Some b

-- The value of this name is such a one, and gives this integer.
pub record IsProbedInt (u : UnitText) (now : List Bool) (begun : Env) (n : List ℕ) (width bits : ℕ) : Type 0 where
  pub signal : OperandText
  pub probe : IsProbe u n signal
  pub int : probed now begun signal ≡ Some (datum_held (int_value width bits))

-- Two operands are integers that probes of arguments give, and whether they are the same is this.
pub record AreCompared (u : UnitText) (now : List Bool) (begun : Env) (operands : List OperandText) (b : Bool) : Type 0 where
  pub left : OperandText
  pub right : OperandText
  pub both : operands ≡ left ∷ right ∷ []
  pub left_width : ℕ
  pub left_bits : ℕ
  pub right_width : ℕ
  pub right_bits : ℕ
  pub is_left : IsProbedInt u now begun left.value left_width left_bits
  pub is_right : IsProbedInt u now begun right.value right_width right_bits
  pub same : b ≡ (nat_eq left_width right_width && nat_eq left_bits right_bits)

-- The value of this name is the `eq` of such ones, and so this truth value.
pub record IsComparedBit (u : UnitText) (now : List Bool) (begun : Env) (n : List ℕ) (b : Bool) : Type 0 where
  pub operands : List OperandText
  pub given : line_giving n (lines_of u.blocks) ≡ Some (pure_text op.Eq operands)
  pub compared : AreCompared u now begun operands b

-- it is the one or the other
abbrev pub IsKnownBit : UnitText → (now : List Bool) → (begun : Env) → (n : List ℕ) → Bool → Type 0
IsKnownBit u now begun n b = IsProbedBit u now begun n b ⊎ IsComparedBit u now begun n b

-- in a pass that began so, the argument of a probe is held as it was, and what the probe gives is held, or no value yet
pub record KnowsProbe (now : List Bool) (begun e : Env) (n : List ℕ) (signal : OperandText) : Type 0 where
  pub part : part_at e signal.value ≡ part_at begun signal.value
  pub value : (datum_at e n ≡ None) ⊎ (e n ≡ probed now begun signal)

-- the same of all probes of arguments
abbrev pub KnowsProbes : UnitText → List Bool → (begun e : Env) → Type 0
KnowsProbes u now begun e = (n : List ℕ) (signal : OperandText) → IsProbe u n signal → KnowsProbe now begun e n signal

-- what is compared is held as it comes out, or no truth value yet
abbrev pub KnowsCompared : UnitText → List Bool → (begun e : Env) → Type 0
KnowsCompared u now begun e = (n : List ℕ) (b : Bool) → IsComparedBit u now begun n b → (test_at e n ≡ None) ⊎ (test_at e n ≡ Some b)

-- what a pass that began so knows of both
pub record KnowsProbedBits (u : UnitText) (now : List Bool) (begun e : Env) : Type 0 where
  pub probes : KnowsProbes u now begun e
  pub compared : KnowsCompared u now begun e

-- a gate is there, and known to be 0
abbrev pub IsShut : UnitText → (now : List Bool) → (begun : Env) → (gate : Option (List ℕ)) → Type 0
IsShut u now begun None = ⊥
IsShut u now begun (Some n) = IsKnownBit u now begun n false

-- a trigger of this value does not fire, by its mode or by its gate
abbrev pub HoldsBack : UnitText → (now : List Bool) → (begun : Env) → (past : Option Bool) → Bool → TriggerText → Type 0
HoldsBack u now begun past b g = (mode_holds g.mode past b ≡ false) ⊎ IsShut u now begun g.gate

-- what an entity begins with where its arguments have these ranges
abbrev pub BeginsBy : UnitText → (args : List Range) → Env → Type 0
BeginsBy u args e = (sigs : List Range) × (e ≡ parts_of u args sigs)

-- where a pass begins, nothing being seen or wished
abbrev pub begins_with : Env → Passed
begins_with e = record { held = e; seen = []; wish = no_wish }

-- these have been seen, and nothing is wished
pub record IsStill (p : Passed) (values : List Bool) : Type 0 where
  pub seen : p.seen ≡ values
  pub wish : p.wish ≡ no_wish
