-- Some operations and terms as they are read.
use Rattle.std.specs.Prelude.{◌≡◌, ℕ, [], ◌∷◌, false}
use Rattle.lh_types.specs.Types.{int_type}
use Rattle.lh_types.specs.Values.{int_value, array_value, no_values, more_values}
use Rattle.lh_types.specs.declared.op.Op.TheVariants.{Not, And, Mux, Array}
use Rattle.lh_term.specs.Tree.{Tree, constant, past_of, now_of, choice_of, operation_on}
use Rattle.lh_term.specs.Parts.{whole_argument}
use Rattle.lh_term.specs.Make.{bit_of}
use Rattle.lh_cert_terms.specs.Rebuilding.{read_operation, rebuilt}

-- the value now of argument i, of one bit and of eight
abbrev pub bit : (i : ℕ) → Tree
bit i = now_of (whole_argument i (int_type 1))

abbrev pub byte : (i : ℕ) → Tree
byte i = now_of (whole_argument i (int_type 8))

-- the array of constants of eight bits, and of one bit
abbrev pub bytes : (f t : ℕ) → Tree
bytes f t = constant (array_value (more_values (int_value 8 f) (more_values (int_value 8 t) no_values)))

abbrev pub bits : (f t : ℕ) → Tree
bits f t = constant (array_value (more_values (int_value 1 f) (more_values (int_value 1 t) no_values)))

-- A `mux` of two values that are known is a choice, and so may fold; one of three, or by more than one bit, is none. A choice and a value
-- before are read from the leaves.
pub record WorkedReadings : Type 0 where
  pub of_terms : read_operation Mux (operation_on Array (byte 0 ∷ byte 1 ∷ []) ∷ bit 2 ∷ []) ≡ choice_of (bit 2) (byte 0) (byte 1)
  pub of_constants : read_operation Mux (bytes 3 4 ∷ bit 0 ∷ []) ≡ choice_of (bit 0) (constant (int_value 8 3)) (constant (int_value 8 4))
  pub to_condition : read_operation Mux (bits 0 1 ∷ bit 0 ∷ []) ≡ bit 0
  pub to_negation : read_operation Mux (bits 1 0 ∷ bit 0 ∷ []) ≡ operation_on Not (bit 0 ∷ [])
  pub of_three : read_operation Mux (operation_on Array (byte 0 ∷ byte 1 ∷ byte 2 ∷ []) ∷ bit 3 ∷ []) ≡ operation_on Mux (operation_on Array (byte 0 ∷ byte 1 ∷ byte 2 ∷ []) ∷ bit 3 ∷ [])
  pub by_byte : read_operation Mux (bytes 3 4 ∷ byte 0 ∷ []) ≡ operation_on Mux (bytes 3 4 ∷ byte 0 ∷ [])
  pub before : rebuilt (operation_on And (operation_on Not (past_of (whole_argument 0 (int_type 1)) ∷ []) ∷ bit 0 ∷ [])) ≡ bit_of false
  pub within : rebuilt (choice_of (operation_on Mux (bits 0 1 ∷ bit 0 ∷ [])) (byte 1) (byte 2)) ≡ choice_of (bit 0) (byte 1) (byte 2)
