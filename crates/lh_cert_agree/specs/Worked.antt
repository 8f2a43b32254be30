-- Some pairs of terms, of which some agree.
use Rattle.std.specs.Prelude.{◌≡◌, ℕ, List, [], ◌∷◌, true, false}
use Rattle.lh_types.specs.Types.{int_type}
use Rattle.lh_types.specs.declared.op.Op.TheVariants.{Not, And, Or, Xor, Neq, Add}
use Rattle.lh_term.specs.Tree.{Tree, now_of, choice_of, operation_on}
use Rattle.lh_term.specs.Parts.{whole_argument}
use Rattle.lh_term.specs.Make.{bit_of}
use Rattle.lh_cert_agree.specs.Agreeing.{agree}

-- the value now of argument i, of one bit and of eight
abbrev pub bit : (i : ℕ) → Tree
bit i = now_of (whole_argument i (int_type 1))

abbrev pub byte : (i : ℕ) → Tree
byte i = now_of (whole_argument i (int_type 8))

abbrev pub all_of : Tree → List Tree → Tree
all_of t [] = t
all_of t (u ∷ more) = operation_on And (t ∷ all_of u more ∷ [])

-- the conjunction of twelve bits, and of thirteen
abbrev pub twelve : Tree → Tree
twelve last = all_of (bit 0) (bit 1 ∷ bit 2 ∷ bit 3 ∷ bit 4 ∷ bit 5 ∷ bit 6 ∷ bit 7 ∷ bit 8 ∷ bit 9 ∷ bit 10 ∷ last ∷ [])

-- Operands in another order agree, on one bit alone; what differs at some valuation does not.
pub record WorkedPairs : Type 0 where
  pub swapped : agree (operation_on And (bit 0 ∷ bit 1 ∷ [])) (operation_on And (bit 1 ∷ bit 0 ∷ [])) ≡ true
  pub denied : agree (operation_on Not (bit 0 ∷ [])) (operation_on Xor (bit 0 ∷ bit_of true ∷ [])) ≡ true
  pub chosen : agree (choice_of (bit 0) (bit 1) (bit 2)) (operation_on Or (operation_on And (bit 0 ∷ bit 2 ∷ []) ∷ operation_on And (operation_on Not (bit 0 ∷ []) ∷ bit 1 ∷ []) ∷ [])) ≡ true
  pub other : agree (operation_on And (bit 0 ∷ bit 1 ∷ [])) (operation_on Or (bit 0 ∷ bit 1 ∷ [])) ≡ false
  pub wide : agree (operation_on Add (byte 0 ∷ byte 1 ∷ [])) (operation_on Add (byte 1 ∷ byte 0 ∷ [])) ≡ false
  pub inside : agree (operation_on Neq (byte 0 ∷ byte 1 ∷ [])) (operation_on Neq (byte 1 ∷ byte 0 ∷ [])) ≡ false
  pub wider : agree (choice_of (operation_on And (bit 0 ∷ bit 1 ∷ [])) (byte 2) (byte 3)) (choice_of (operation_on And (bit 1 ∷ bit 0 ∷ [])) (byte 2) (byte 3)) ≡ false
  pub same : agree (byte 0) (byte 0) ≡ true
  pub many : agree (operation_on Not (twelve (all_of (bit 11) (bit 12 ∷ [])) ∷ [])) (operation_on Xor (twelve (all_of (bit 11) (bit 12 ∷ [])) ∷ bit_of true ∷ [])) ≡ false
