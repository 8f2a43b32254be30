-- A type that the language has is a data type within its limits.
use Rattle.std.proofs.Common.{◌≡◌, ℕ, ◌*◌, ◌+◌, ◌<◌, ◌≤◌, ◌^◌, List, [], ◌∷◌, length, ◌≢◌, Bool, true, false, not, nat_eq, nat_lt, ◌||◌, if◌then◌else◌, Option, Some, None, refl, sym, subst, arith}
use Rattle.std.proofs.lemmas.Nat.{mul-le}
use Rattle.std.proofs.lemmas.Option.{none-some}
use Rattle.std.proofs.lemmas.Bool.Decides.{nat_tests}
use Rattle.lh_types.specs.Types.{TypeTree, int_type, array_type, tuple_type, row_of, IsData, AreData, bit_count, bit_count_row, depth_of, depth_of_row}
use Rattle.lh_types.specs.Faults.{is_data, all_data, is_empty_row, int_fault, array_fault, tuple_fault}
use Rattle.lh_types.specs.declared.ty.TyFault.{TyFault}
use Rattle.lh_types.proofs.Limits.{one_le-bit_count, one_le-bit_count_row}
use Rattle.lh_unit.specs.Typing.{if_made, array_made, tuple_made}
use Rattle.lh_unit.proofs.Lists.{if_made-is}

-- a test that is followed by no fault has failed
test-failed : (b : Bool) (x : TyFault) (f : Option TyFault) → (if b then Some x else f) ≡ None → (b ≡ false) × (f ≡ None)
test-failed true x f q = absurd (none-some x (sym q))
test-failed false x f q = (refl, q)

pub int-made : (n : ℕ) (s : TypeTree) → if_made (int_fault n) (int_type n) ≡ Some s → IsData s × (int_type n ≡ s)
int-made n s q =
    let m = if_made-is (int_fault n) (int_type n) s q in
    let a = test-failed (nat_eq n 0 || nat_lt 128 n) _ None m.0 in
    let low : 1 ≤ n = grind (arith, nat_tests) in
    let high : n ≤ 128 = grind (arith, nat_tests) in
    (subst IsData m.1 (low, high), m.1)

pub array-made : (n : ℕ) (t s : TypeTree) → IsData t → array_made n t ≡ Some s → IsData s × (array_type n t ≡ s)
array-made n t s d q =
    let m = if_made-is (array_fault n t) (array_type n t) s q in
    let a = test-failed (nat_eq n 0) _ _ m.0 in
    let b = test-failed (not (is_data t)) _ _ a.1 in
    let c = test-failed (nat_lt 16 (depth_of t + 1)) _ _ b.1 in
    let e = test-failed (nat_lt 65536 (n * bit_count t)) _ None c.1 in
    let low : 1 ≤ n = grind (arith, nat_tests) in
    let deep : depth_of t + 1 ≤ 16 = grind (arith, nat_tests) in
    let wide : n * bit_count t ≤ 65536 = grind (arith, nat_tests) in
    let one : 1 ≤ bit_count t = one_le-bit_count t d in
    let few : n < 2 ^ 32 = omega (arith, wide, mul-le n 1 n (bit_count t) (omega arith) one) in
    (subst IsData m.1 (d, low, few, wide, deep), m.1)

not-empty : (ts : List TypeTree) → is_empty_row (row_of ts) ≡ false → length ts ≢ 0
not-empty [] q = λ p. cc
not-empty (t ∷ ts) q = λ p. omega (arith, p)

pub tuple-made : (ts : List TypeTree) (s : TypeTree) → AreData (row_of ts) → tuple_made (row_of ts) ≡ Some s → IsData s × (tuple_type (row_of ts) ≡ s)
tuple-made ts s d q =
    let m = if_made-is (tuple_fault (row_of ts)) (tuple_type (row_of ts)) s q in
    let a = test-failed (is_empty_row (row_of ts)) _ _ m.0 in
    let b = test-failed (not (all_data (row_of ts))) _ _ a.1 in
    let c = test-failed (nat_lt 16 (depth_of_row (row_of ts) + 1)) _ _ b.1 in
    let e = test-failed (nat_lt 65536 (bit_count_row (row_of ts))) _ None c.1 in
    let deep : depth_of_row (row_of ts) + 1 ≤ 16 = grind (arith, nat_tests) in
    let wide : bit_count_row (row_of ts) ≤ 65536 = grind (arith, nat_tests) in
    let some : 0 < bit_count_row (row_of ts) = one_le-bit_count_row ts d (not-empty ts a.0) in
    (subst IsData m.1 (d, some, wide, deep), m.1)
