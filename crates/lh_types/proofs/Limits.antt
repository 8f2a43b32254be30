-- The limits of data types, and of rows of them.
use Rattle.std.proofs.Common.{◌≡◌, ◌+◌, ◌<◌, ◌≤◌, List, [], ◌∷◌, length, ◌≢◌, true, false, nat_lt, None, refl, arith}
use Rattle.std.proofs.lemmas.Nat.{mul-le}
use Rattle.std.proofs.lemmas.Bool.Decides.{nat_tests}
use Rattle.lh_types.specs.Faults.{all_data, tuple_fault}
use Rattle.lh_types.specs.Types.{TypeTree, TypeRow, int_type, time_type, void_type, array_type, tuple_type, signal_type, pointer_type, no_types, more_types, row_of, AreData, IsData, bit_count, bit_count_row, depth_of, depth_of_row}

-- a data type has at least one bit
pub one_le-bit_count : (t : TypeTree) → IsData t → 1 ≤ bit_count t
one_le-bit_count (int_type n) h = h.0
one_le-bit_count (array_type n t) h = let b : 1 ≤ bit_count t = one_le-bit_count t h.0 in omega (arith, mul-le 1 1 n (bit_count t) h.1 b)
one_le-bit_count (tuple_type ts) h = h.1
one_le-bit_count time_type h = absurd h
one_le-bit_count void_type h = absurd h
one_le-bit_count (signal_type t) h = absurd h
one_le-bit_count (pointer_type t) h = absurd h

-- a data type has at most 65,536 bits
pub bit_count-le : (t : TypeTree) → IsData t → bit_count t ≤ 65536
bit_count-le (int_type n) h = omega arith
bit_count-le (array_type n t) h = h.3
bit_count-le (tuple_type ts) h = h.2
bit_count-le time_type h = absurd h
bit_count-le void_type h = absurd h
bit_count-le (signal_type t) h = absurd h
bit_count-le (pointer_type t) h = absurd h

-- a data type nests at most 16 deep
pub depth_of-le : (t : TypeTree) → IsData t → depth_of t ≤ 16
depth_of-le (int_type n) h = omega arith
depth_of-le (array_type n t) h = h.4
depth_of-le (tuple_type ts) h = h.3
depth_of-le time_type h = absurd h
depth_of-le void_type h = absurd h
depth_of-le (signal_type t) h = absurd h
depth_of-le (pointer_type t) h = absurd h

-- so does each of a row
pub depth_of_row-le : (ts : TypeRow) → AreData ts → depth_of_row ts ≤ 16
depth_of_row-le no_types h = omega arith
depth_of_row-le (more_types t ts) h = omega (arith, depth_of-le t h.0, depth_of_row-le ts h.1)

-- a row of data types that is not empty has at least one bit
pub one_le-bit_count_row : (ts : List TypeTree) → AreData (row_of ts) → length ts ≢ 0 → 0 < bit_count_row (row_of ts)
one_le-bit_count_row [] h ne = absurd (ne refl)
one_le-bit_count_row (t ∷ ts) h ne = omega (arith, one_le-bit_count t h.0)

-- the struct of these fields has no fault
pub tuple_fault-none : (ts : List TypeTree) → length ts ≢ 0 → all_data (row_of ts) ≡ true → depth_of_row (row_of ts) + 1 ≤ 16 → nat_lt 65536 (bit_count_row (row_of ts)) ≡ false
    → tuple_fault (row_of ts) ≡ None
tuple_fault-none [] ne a d b = absurd (ne refl)
tuple_fault-none (t ∷ ts) ne a d b = let deep : nat_lt 16 (depth_of_row (row_of (t ∷ ts)) + 1) ≡ false = grind (arith, nat_tests) in rw (a, deep, b) refl
