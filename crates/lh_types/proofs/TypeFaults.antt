-- A type has no fault exactly where it is within its limits.
use Rattle.std.proofs.Common.{◌≡◌, ℕ, ◌+◌, ◌*◌, ◌<◌, ◌≤◌, Bool, true, false, List, [], ◌∷◌, Some, None, nat_eq, nat_lt, refl, arith, ltb-false, le-ltb}
use Rattle.std.specs.Prelude.{if◌then◌else◌, ◌||◌, ◌^◌, not}
use Rattle.std.proofs.lemmas.Grind.{common_steps}
use Rattle.std.proofs.lemmas.Bool.{and_parts}
use Rattle.lh_types.specs.Types.{TypeTree, TypeRow, int_type, time_type, array_type, tuple_type, pointer_type, no_types, more_types, row_of, bit_count, bit_count_row, depth_of, depth_of_row, IsData, AreData, IsLimited}
use Rattle.lh_types.specs.Faults.{is_data, is_time, all_data, is_empty_row, array_fault, tuple_fault}
use Rattle.lh_types.specs.declared.ty.TyFault.{TyFault}
use Rattle.lh_types.proofs.Limits.{one_le-bit_count}

-- four tests for a fault, one after another
pub four_none : (a b c d : Bool) (w x y z : TyFault) → (if a then Some w else (if not b then Some x else (if c then Some y else (if d then Some z else None)))) ≡ None → (a ≡ false) × (b ≡ true)
    × (c ≡ false) × (d ≡ false)
four_none true b c d w x y z p = cc
four_none false false c d w x y z p = cc
four_none false true true d w x y z p = cc
four_none false true false true w x y z p = cc
four_none false true false false w x y z p = (refl, refl, refl, refl)

not_zero : (n : ℕ) → nat_eq n 0 ≡ false → 1 ≤ n
not_zero n e = grind (arith, common_steps)

pub above_zero : (n : ℕ) → 1 ≤ n → nat_eq n 0 ≡ false
above_zero n h = grind (arith, common_steps)

-- the limits of arrays and structs
pub is_data-yes : (t : TypeTree) → IsData t → is_data t ≡ true
is_data-yes (int_type n) h = refl
is_data-yes (array_type n t) h = refl
is_data-yes (tuple_type r) h = refl
is_data-yes _ h = absurd h

pub all_data-yes : (r : TypeRow) → AreData r → all_data r ≡ true
all_data-yes no_types h = refl
all_data-yes (more_types t r) h = rw (is_data-yes t h.0, all_data-yes r h.1) refl

pub array-sound : (n : ℕ) (t : TypeTree) → IsData t → n < 2 ^ 32 → array_fault n t ≡ None → IsData (array_type n t)
array-sound n t d h e =
    let f = four_none (nat_eq n 0) (is_data t) (nat_lt 16 (depth_of t + 1)) (nat_lt 65536 (n * bit_count t)) _ _ _ _ e in
    (d, not_zero n f.0, h, ltb-false 65536 (n * bit_count t) f.3, ltb-false 16 (depth_of t + 1) f.2)

pub array-again : (n : ℕ) (t : TypeTree) → IsData (array_type n t) → array_fault n t ≡ None
array-again n t h =
    let a = above_zero n h.1 in let b = is_data-yes t h.0 in let c = le-ltb 16 (depth_of t + 1) h.4 in let d = le-ltb 65536 (n * bit_count t) h.3 in
    rw (a, b, c, d) refl

some_bits : (r : TypeRow) → AreData r → is_empty_row r ≡ false → 0 < bit_count_row r
some_bits no_types h e = cc
some_bits (more_types t r) h e = omega (arith, one_le-bit_count t h.0)

not_empty : (r : TypeRow) → 0 < bit_count_row r → is_empty_row r ≡ false
not_empty no_types h = absurd (omega (arith, h))
not_empty (more_types t r) h = refl

pub tuple-sound : (r : TypeRow) → AreData r → tuple_fault r ≡ None → IsData (tuple_type r)
tuple-sound r d e =
    let f = four_none (is_empty_row r) (all_data r) (nat_lt 16 (depth_of_row r + 1)) (nat_lt 65536 (bit_count_row r)) _ _ _ _ e in
    (d, some_bits r d f.0, ltb-false 65536 (bit_count_row r) f.3, ltb-false 16 (depth_of_row r + 1) f.2)

pub tuple-again : (r : TypeRow) → IsData (tuple_type r) → tuple_fault r ≡ None
tuple-again r h =
    let a = not_empty r h.1 in let b = all_data-yes r h.0 in let c = le-ltb 16 (depth_of_row r + 1) h.3 in let d = le-ltb 65536 (bit_count_row r) h.2 in
    rw (a, b, c, d) refl

-- signals and pointers
pub data_limited : (t : TypeTree) → IsData t → IsLimited t
data_limited (int_type n) h = h
data_limited (array_type n t) h = h
data_limited (tuple_type r) h = h
data_limited _ h = absurd h

pub limited_data : (t : TypeTree) → is_data t ≡ true → IsLimited t → IsData t
limited_data (int_type n) e h = h
limited_data (array_type n t) e h = h
limited_data (tuple_type r) e h = h
limited_data _ e h = cc

pub fault_none : (b : Bool) (e : TyFault) → (if b then None else Some e) ≡ None → b ≡ true
fault_none true e p = refl
fault_none false e p = cc

pub pointed_limited : (t : TypeTree) → is_data t || is_time t ≡ true → IsLimited t → IsLimited (pointer_type t)
pointed_limited (int_type n) e h = h
pointed_limited (array_type n t) e h = h
pointed_limited (tuple_type r) e h = h
pointed_limited time_type e h = tt
pointed_limited _ e h = cc

pub pointed_data : (t : TypeTree) → IsLimited (pointer_type t) → is_data t || is_time t ≡ true
pointed_data (int_type n) h = refl
pointed_data (array_type n t) h = refl
pointed_data (tuple_type r) h = refl
pointed_data time_type h = refl
pointed_data _ h = absurd h

-- arrays and structs of types within their limits
pub array-limited : (n : ℕ) (t : TypeTree) → IsLimited t → n < 2 ^ 32 → array_fault n t ≡ None → IsLimited (array_type n t)
array-limited n t l h e = let f = four_none (nat_eq n 0) (is_data t) (nat_lt 16 (depth_of t + 1)) (nat_lt 65536 (n * bit_count t)) _ _ _ _ e in array-sound n t (limited_data t f.1 l) h e

-- each is within its limits
abbrev pub AreLimited : List TypeTree → Type 0
AreLimited [] = Unit {0}
AreLimited (t ∷ ts) = IsLimited t × AreLimited ts

limited_row : (ts : List TypeTree) → AreLimited ts → all_data (row_of ts) ≡ true → AreData (row_of ts)
limited_row [] l e = tt
limited_row (t ∷ ts) l e = let f = and_parts (is_data t) (all_data (row_of ts)) e in (limited_data t f.0 l.0, limited_row ts l.1 f.1)

pub tuple-limited : (ts : List TypeTree) → AreLimited ts → tuple_fault (row_of ts) ≡ None → IsLimited (tuple_type (row_of ts))
tuple-limited ts l e =
    let f = four_none (is_empty_row (row_of ts)) (all_data (row_of ts)) (nat_lt 16 (depth_of_row (row_of ts) + 1)) (nat_lt 65536 (bit_count_row (row_of ts))) _ _ _ _ e in
    tuple-sound (row_of ts) (limited_row ts l f.1) e
