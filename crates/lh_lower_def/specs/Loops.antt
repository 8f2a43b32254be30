-- A loop that adds a signal's value to a sum, as often as its body is executed.
use Rattle.std.specs.Prelude.{◌≡◌, ◌≤◌, ℕ, zero, suc, [], ◌∷◌, true}
use Rattle.lh_types.specs.Values.{int_value, time_value}
use Rattle.lh_types.specs.declared.op.Op.TheVariants.{Add}
use Rattle.lh_unit.specs.Contents.{unit_text}
use Rattle.lh_term.specs.Tree.{Tree, constant, now_of, operation_on}
use Rattle.lh_term.specs.Make.{bit_of}
use Rattle.lh_term.specs.declared.part.Part.{Part}
use Rattle.lh_shape.specs.declared.reason.Reason.TheVariants as reason
use Rattle.lh_shape.specs.Shapes.{comb, shape_in}
use Rattle.lh_lower_def.specs.declared.report.Kind.TheVariants as kind
use Rattle.lh_lower_def.specs.Lowering.{report}
use Rattle.lh_lower_def.specs.Modules.{word, lp_unit}
use Rattle.lh_lower_def.specs.Worked.{lowered_row, left_row, Stays}

-- the whole of argument i
abbrev pub whole : ℕ → Part
whole i = record { arg = i; lo = 0; ty = word }

-- 0, and then the signal's value n times
abbrev pub sum_of : (n : ℕ) → Tree
sum_of zero = constant (int_value 32 0)
sum_of (suc n) = operation_on Add (sum_of n ∷ now_of (whole 0) ∷ [])

-- A body that is executed at most 257 times is unrolled: the drive's value is the sum of as many.
abbrev pub LoopShape : Type 0
LoopShape = (n : ℕ) → 1 ≤ n → n ≤ 257 → shape_in (unit_text (lp_unit n) ∷ []) (lp_unit n) ≡
    comb (whole 0 ∷ []) (record { cond = bit_of true; part = whole 1; value = sum_of n; delay = constant (time_value (record { fs = 0; delta = 1; eps = 0 })) } ∷ [])

-- So the process becomes an entity.
abbrev pub LoopLowers : Type 0
LoopLowers = (n : ℕ) → 1 ≤ n → n ≤ 257 → report (unit_text (lp_unit n) ∷ []) ≡ lowered_row "lp" kind.Comb ∷ []

-- With a body that is executed more often it stays.
abbrev pub LongLoopStays : Type 0
LongLoopStays = (n : ℕ) → 258 ≤ n → Stays (unit_text (lp_unit n) ∷ []) (left_row "lp" reason.TooManyTurns ∷ [])
