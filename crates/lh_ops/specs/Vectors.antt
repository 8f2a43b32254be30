-- Worked rows, computed from the definition.
use Rattle.std.specs.Prelude.{◌≡◌, ℕ, ◌-◌, ◌^◌, [], ◌∷◌}
use Rattle.lh_types.specs.Values.{int_value, array_value, data_row}
use Rattle.lh_types.specs.Apply.{apply}
use Rattle.lh_types.specs.declared.op.Op.{Op}
use Rattle.lh_types.specs.declared.op.Op.TheVariants.{Add, Umul, Udiv, Sdiv, Srem, Smod, Shl, Shr, Mux}

-- an operation on integers of n bits gives this integer of n bits
abbrev pub Gives2 : ℕ → Op → ℕ → ℕ → ℕ → Type 0
Gives2 n op a b c = apply op (int_value n a ∷ int_value n b ∷ []) ≡ int_value n c

abbrev pub Gives3 : ℕ → Op → ℕ → ℕ → ℕ → ℕ → Type 0
Gives3 n op b h k c = apply op (int_value n b ∷ int_value n h ∷ int_value n k ∷ []) ≡ int_value n c

-- on 8 bits
pub record ByteRows : Type 0 where
  pub shl_by_3 : Gives3 8 Shl 129 240 3 15
  pub shr_by_3 : Gives3 8 Shr 129 5 3 176
  pub shl_past_width : Gives3 8 Shl 129 240 9 240
  pub sdiv_of_minus_7 : Gives2 8 Sdiv 249 3 254
  pub srem_of_minus_7 : Gives2 8 Srem 249 3 255
  pub smod_of_minus_7 : Gives2 8 Smod 249 3 2
  pub sdiv_wraps : Gives2 8 Sdiv 128 255 128
  pub udiv_by_zero : Gives2 8 Udiv 7 0 0
  pub mux_past_end : apply Mux (array_value (data_row (int_value 8 10 ∷ int_value 8 20 ∷ int_value 8 30 ∷ [])) ∷ int_value 8 3 ∷ []) ≡ int_value 8 30
  pub add_wraps : Gives2 8 Add 255 1 0

-- on 128 bits, m the greatest integer
pub record WideRows (m : ℕ) : Type 0 where
  pub add_wraps : Gives2 128 Add m 1 0
  pub umul_wraps : Gives2 128 Umul (2 ^ 64) (2 ^ 64) 0
  pub sdiv_wraps : Gives2 128 Sdiv (2 ^ 127) m (2 ^ 127)
  pub srem_of_minus_1 : Gives2 128 Srem m 2 m
  pub smod_of_minus_1 : Gives2 128 Smod m 2 1
  pub udiv_of_powers : Gives2 128 Udiv (2 ^ 100) (2 ^ 60) (2 ^ 40)
  pub shl_by_1 : Gives3 128 Shl 1 (2 ^ 127) 1 3
  pub shr_by_1 : Gives3 128 Shr 1 1 1 (2 ^ 127)

abbrev pub WorkedRows : Type 0
WorkedRows = ByteRows × WideRows (2 ^ 128 - 1)

-- the two funnel shifts
abbrev pub IsShift : Op → Type 0
IsShift Shl = Unit {0}
IsShift Shr = Unit {0}
IsShift _ = ⊥
