-- The names of the signals of a chain: no two are one.
use Rattle.std.proofs.Common.{◌≡◌, ℕ, ◌≤◌, true, false, List, ◌∷◌, length, nat_le, decimal, refl, arith}
use Rattle.std.proofs.lemmas.Bool.{false_from_ne_true}
use Rattle.std.proofs.lemmas.Fmt.{decimal_injective, length-decimal-le}
use Rattle.std.proofs.lemmas.Grind.{common_steps}
use Rattle.lh_unit_names.specs.Names.{is_name_byte, all_name_bytes, same_name}
use Rattle.lh_unit_names.proofs.NameLists.{same_name-is}
use Rattle.lh_text_laws.proofs.Numerals.{decimal-named}
use Rattle.lh_selftest_laws.specs.Chain.{stage, next_of}
use Rattle.lh_selftest_laws.proofs.Lines.{IsNamed}

lettered : (b : ℕ) (ds : List ℕ) → is_name_byte b ≡ true → length ds ≤ 4 → all_name_bytes ds ≡ true → IsNamed (b ∷ ds)
lettered b ds e h k =
    let p : nat_le 1 (length (b ∷ ds)) ≡ true = grind (arith, common_steps) in
    let q : nat_le (length (b ∷ ds)) 255 ≡ true = grind (arith, common_steps) in
    rw (p, q, e, k) refl

pub number-short : (i : ℕ) → i ≤ 1000 → length (decimal i) ≤ 4
number-short i h = length-decimal-le 4 i (omega arith) (omega arith) (omega arith)

pub stage-named : (k : ℕ) → k ≤ 1000 → IsNamed (stage k)
stage-named k h = lettered 120 (decimal k) refl (number-short k h) (decimal-named k (omega arith))

pub next-named : (i : ℕ) → i ≤ 1000 → IsNamed (next_of i)
next-named i h = lettered 100 (decimal i) refl (number-short i h) (decimal-named i (omega arith))

numbers-differ : (j k : ℕ) → j ≤ 1000 → k ≤ 1000 → (j ≡ k → ⊥) → same_name (decimal j) (decimal k) ≡ false
numbers-differ j k lj lk d =
    false_from_ne_true (same_name (decimal j) (decimal k)) (λ q. d (decimal_injective j k (omega arith) (omega arith) (same_name-is (decimal j) (decimal k) q)))

-- names of other numbers differ
pub stages-differ : (j k : ℕ) → j ≤ 1000 → k ≤ 1000 → (j ≡ k → ⊥) → same_name (stage j) (stage k) ≡ false
stages-differ j k lj lk d = numbers-differ j k lj lk d

pub nexts-differ : (j k : ℕ) → j ≤ 1000 → k ≤ 1000 → (j ≡ k → ⊥) → same_name (next_of j) (next_of k) ≡ false
nexts-differ j k lj lk d = numbers-differ j k lj lk d
