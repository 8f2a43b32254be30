-- The values that parts have fit their types.
use Rattle.std.proofs.Common.{◌≡◌, ℕ, ◌<◌, ◌≤◌, ◌^◌, zero, suc, List, [], ◌∷◌, Bool, length, take, drop, refl, arith}
use Rattle.std.proofs.Math.Nat.{pow-le-pow_right}
use Rattle.lh_types.specs.Types.{TypeTree, TypeRow, int_type, time_type, void_type, array_type, tuple_type, signal_type, pointer_type, no_types, more_types, bit_count, IsData, AreData}
use Rattle.lh_types.specs.Values.{Datum}
use Rattle.lh_types.specs.Fits.{FitsType, PartsFit, FitsRow, part_count}
use Rattle.lh_types.specs.Bits.{value_from_bits, row_from_bits, repeat_parts, bits_number}
use Rattle.lh_types.specs.declared.part.Range.{Range}
use Rattle.lh_bits.proofs.NumberBits.{bits_number-lt}
use Rattle.lh_term.specs.Mean.{IsFitting}
use Rattle.lh_unit.specs.Held.{bits_in}
use Rattle.lh_region_def.specs.Means.{range_in, reads}

take-few : {X : Type 0} (n : ℕ) (xs : List X) → length (take n xs) ≤ n
take-few zero xs = omega arith
take-few (suc n) [] = omega arith
take-few (suc n) (x ∷ xs) = let h = take-few n xs in omega (arith, h)

pow-more : (a b n : ℕ) → a ≤ b → n < 2 ^ a → n < 2 ^ b
pow-more a b n h l = let m : 2 ^ a ≤ 2 ^ b = pow-le-pow_right (omega arith) h in omega (arith, m, l)

parts-fit : (w : ℕ) (t : TypeTree) (f : List Bool → Datum) → ((bs : List Bool) → FitsType (f bs) t) → (n : ℕ) (bs : List Bool) → (part_count (repeat_parts n f w bs) ≡ n)
    × PartsFit (repeat_parts n f w bs) t
parts-fit w t f each zero bs = (refl, tt)
parts-fit w t f each (suc n) bs = let rest = parts-fit w t f each n (drop w bs) in (omega (arith, rest.0), (each (take w bs), rest.1))

mutual
  value-fits : (t : TypeTree) → IsData t → (bs : List Bool) → FitsType (value_from_bits t bs) t
  value-fits (int_type n) d bs = (refl, pow-more (length (take n bs)) n (bits_number (take n bs)) (take-few n bs) (bits_number-lt (take n bs)))
  value-fits (array_type n t) d bs = parts-fit (bit_count t) t (value_from_bits t) (value-fits t d.0) n bs
  value-fits (tuple_type ts) d bs = row-fits ts d.0 bs
  value-fits time_type d bs = absurd d
  value-fits void_type d bs = absurd d
  value-fits (signal_type t) d bs = absurd d
  value-fits (pointer_type t) d bs = absurd d

  row-fits : (ts : TypeRow) → AreData ts → (bs : List Bool) → FitsRow (row_from_bits ts bs) ts
  row-fits no_types d bs = tt
  row-fits (more_types t ts) d bs = (value-fits t d.0 (take (bit_count t) bs), row-fits ts d.1 (drop (bit_count t) bs))

pub reads-fit : (args : List Range) (now : List Bool) → IsFitting (reads args now)
reads-fit args now p d = value-fits p.ty d (bits_in now (range_in args p))
