-- A value that is read from bits is of the type.
use Rattle.std.proofs.Common.{◌≡◌, ◌<◌, ℕ, zero, suc, ◌+◌, ◌*◌, ◌^◌, List, [], ◌∷◌, take, drop, Bool, true, false, refl, ap, ◌∙◌, arith, add-one}
use Rattle.lh_types.specs.Types.{TypeTree, TypeRow, int_type, time_type, void_type, array_type, tuple_type, signal_type, pointer_type, no_types, more_types, bit_count, AreData}
use Rattle.lh_types.specs.Values.{Datum}
use Rattle.lh_types.specs.Fits.{part_count, FitsType, PartsFit, FitsRow}
use Rattle.lh_types.specs.Bits.{bits_number, repeat_parts, value_from_bits, row_from_bits}
use Rattle.lh_trace_laws.specs.Probes.{ReadValuesFit}

-- twice a power is the next one
twice : (n : ℕ) → 2 ^ suc n ≡ 2 * 2 ^ n
twice n = grind arith

power_above : (n : ℕ) → 0 < 2 ^ n
power_above zero = omega arith
power_above (suc n) = let e = twice n in let h = power_above n in omega (arith, e, h)

-- a number of n bits is below 2 ^ n
pub number_below : (n : ℕ) (bits : List Bool) → bits_number (take n bits) < 2 ^ n
number_below zero [] = omega arith
number_below zero (b ∷ bits) = omega arith
number_below (suc n) [] = power_above (suc n)
number_below (suc n) (true ∷ bits) = let e = twice n in let h = number_below n bits in omega (arith, e, h)
number_below (suc n) (false ∷ bits) = let e = twice n in let h = number_below n bits in omega (arith, e, h)

counted : (n : ℕ) (f : List Bool → Datum) (w : ℕ) (bits : List Bool) → part_count (repeat_parts n f w bits) ≡ n
counted zero f w bits = refl
counted (suc n) f w bits = ap (λ k. k + 1) (counted n f w (drop w bits)) ∙ add-one n

all_fit : (t : TypeTree) (f : List Bool → Datum) → ((bits : List Bool) → FitsType (f bits) t) → (n w : ℕ) (bits : List Bool) → PartsFit (repeat_parts n f w bits) t
all_fit t f h zero w bits = tt
all_fit t f h (suc n) w bits = (h (take w bits), all_fit t f h n w (drop w bits))

mutual
  pub read_values_fit : ReadValuesFit
  read_values_fit (int_type n) bits d = (refl, number_below n bits)
  read_values_fit (array_type n t) bits d = (counted n (value_from_bits t) (bit_count t) bits, all_fit t (value_from_bits t) (λ bs. read_values_fit t bs d.0) n (bit_count t) bits)
  read_values_fit (tuple_type r) bits d = read_row_fits r bits d.0
  read_values_fit time_type bits d = absurd d
  read_values_fit void_type bits d = absurd d
  read_values_fit (signal_type t) bits d = absurd d
  read_values_fit (pointer_type t) bits d = absurd d

  read_row_fits : (r : TypeRow) (bits : List Bool) → AreData r → FitsRow (row_from_bits r bits) r
  read_row_fits no_types bits d = tt
  read_row_fits (more_types t r) bits d = (read_values_fit t (take (bit_count t) bits) d.0, read_row_fits r (drop (bit_count t) bits) d.1)
