-- Names of values: no two numbers have one, and the next name is no argument's.
use Rattle.std.proofs.Common.{◌≡◌, ℕ, zero, suc, ◌+◌, ◌<◌, ◌≤◌, ◌^◌, Bool, true, false, nat_eq, if◌then◌else◌, List, [], ◌∷◌, length, refl, subst, arith, length-append}
use Rattle.std.proofs.lemmas.Bool.Decides.{nat_tests}
use Rattle.std.proofs.lemmas.Fmt.{decimal_injective, length-decimal-le_wide}
use Rattle.std.specs.Prelude.{codes}
use Rattle.std.specs.Fmt.{decimal}
use Rattle.lh_unit.specs.Contents.{ArgText, args_define}
use Rattle.lh_unit_names.specs.Names.{same_name, IsName}
use Rattle.lh_unit_names.proofs.NameLists.{same_name-is}
use Rattle.lh_text_laws.proofs.Numerals.{decimal-named, all_name_bytes-append}
use Rattle.lh_emit_def.specs.Names.{value_name, free_from, free_number, NextIsLeast}

-- names of different numbers differ
pub names_differ : (j k : ℕ) → j < 2 ^ 64 → k < 2 ^ 64 → (j ≡ k → ⊥) → same_name (value_name j) (value_name k) ≡ false
names_differ j k lj lk d = at (same_name (value_name j) (value_name k)) refl
  where
    at : (b : Bool) → same_name (value_name j) (value_name k) ≡ b → same_name (value_name j) (value_name k) ≡ false
    at false q = q
    at true q = let e : value_name j ≡ value_name k = same_name-is (value_name j) (value_name k) q in let f : decimal j ≡ decimal k = cc in absurd (d (decimal_injective j k lj lk f))

-- the arguments of other names
abbrev without : List ℕ → List ArgText → List ArgText
without n [] = []
without n (a ∷ more) = if same_name a.name n then without n more else a ∷ without n more

without-length : (n : List ℕ) (xs : List ArgText) → length (without n xs) ≤ length xs
without-length n [] = omega arith
without-length n (a ∷ more) = at (same_name a.name n) refl (without-length n more)
  where
    at : (b : Bool) → same_name a.name n ≡ b → length (without n more) ≤ length more → length (without n (a ∷ more)) ≤ length (a ∷ more)
    at true q r = rw q (omega (arith, r))
    at false q r = rw q (omega (arith, r))

-- without a name that is there, there are fewer
without-shorter : (n : List ℕ) (xs : List ArgText) → args_define n xs ≡ true → length (without n xs) < length xs
without-shorter n [] h = absurd cc
without-shorter n (a ∷ more) h = at (same_name a.name n) refl (without-shorter n more)
  where
    at : (b : Bool) → same_name a.name n ≡ b → (args_define n more ≡ true → length (without n more) < length more) → length (without n (a ∷ more)) < length (a ∷ more)
    at true q r = rw q (omega (arith, without-length n more))
    at false q r = let g : args_define n more ≡ true = (rw q at h) in rw q (omega (arith, r g))

-- another name is still there
without-other : (n m : List ℕ) (xs : List ArgText) → same_name m n ≡ false → args_define n xs ≡ true → args_define n (without m xs) ≡ true
without-other n m [] d h = absurd cc
without-other n m (a ∷ more) d h = at (same_name a.name m) (same_name a.name n) refl refl (without-other n m more d)
  where
    at : (b c : Bool) → same_name a.name m ≡ b → same_name a.name n ≡ c → (args_define n more ≡ true → args_define n (without m more) ≡ true) → args_define n (without m (a ∷ more)) ≡ true
    at true true q p r =
        let e : a.name ≡ m = same_name-is a.name m q in
        let f : same_name m n ≡ true = subst (λ x. same_name x n ≡ true) e p in absurd cc
    at true false q p r = let g : args_define n more ≡ true = (rw p at h) in rw q (r g)
    at false true q p r = rw q (rw p refl)
    at false false q p r = let g : args_define n more ≡ true = (rw p at h) in rw q (rw p (r g))

pub free_from-within : (args : List ArgText) (n k : ℕ) → (k ≤ free_from args n k) × (free_from args n k ≤ k + n)
free_from-within args zero k = (omega arith, omega arith)
free_from-within args (suc n) k = at (args_define (value_name k) args) refl (free_from-within args n (k + 1))
  where
    at : (b : Bool) → args_define (value_name k) args ≡ b → (k + 1 ≤ free_from args n (k + 1)) × (free_from args n (k + 1) ≤ k + 1 + n) →
        (k ≤ free_from args (suc n) k) × (free_from args (suc n) k ≤ k + suc n)
    at true q r = rw q (omega (arith, r.0), omega (arith, r.1))
    at false q r = rw q (omega arith, omega arith)

-- what could still be in the way
abbrev InTheWay : (args left : List ArgText) → ℕ → Type 0
InTheWay args left k = (j : ℕ) → k ≤ j → j < 2 ^ 64 → args_define (value_name j) args ≡ true → args_define (value_name j) left ≡ true

no-argument : (n : List ℕ) (xs : List ArgText) → length xs ≤ 0 → args_define n xs ≡ true → ⊥
no-argument n [] m e = cc
no-argument n (x ∷ xs) m e = absurd (omega (arith, m))

-- where that is at most as many as the tries
free_from-free : (args left : List ArgText) (n k : ℕ) → length left ≤ n → k + n < 2 ^ 64 → InTheWay args left k → args_define (value_name (free_from args n k)) args ≡ false
free_from-free args left zero k l w h = at (args_define (value_name k) args) refl
  where
    at : (b : Bool) → args_define (value_name k) args ≡ b → args_define (value_name k) args ≡ false
    at false q = q
    at true q = absurd (no-argument (value_name k) left l (h k (omega arith) (omega (arith, w)) q))
free_from-free args left (suc n) k l w h = at (args_define (value_name k) args) refl (free_from-free args (without (value_name k) left) n (k + 1))
  where
    at : (b : Bool) → args_define (value_name k) args ≡ b →
        (length (without (value_name k) left) ≤ n → k + 1 + n < 2 ^ 64 → InTheWay args (without (value_name k) left) (k + 1) → args_define (value_name (free_from args n (k + 1))) args ≡ false) →
        args_define (value_name (free_from args (suc n) k)) args ≡ false
    at false q r = rw q q
    at true q r =
        let s : length (without (value_name k) left) < length left = without-shorter (value_name k) left (h k (omega arith) (omega (arith, w)) q) in
        rw q (r (omega (arith, s, l)) (omega (arith, w))
        (λ j m b e. without-other (value_name j) (value_name k) left (names_differ k j (omega (arith, w)) b (λ p. omega (arith, m, p))) (h j (omega (arith, m)) b e)))

-- the next name is no argument's
pub free-free : (args : List ArgText) (k : ℕ) → k + length args < 2 ^ 64 → args_define (value_name (free_number args k)) args ≡ false
free-free args k w = free_from-free args args (length args) k (omega arith) w (λ j m b e. e)

-- each number before it is an argument's
passed-over : (args : List ArgText) (n k j : ℕ) → k ≤ j → j < free_from args n k → args_define (value_name j) args ≡ true
passed-over args zero k j l h = absurd (omega (arith, l, h))
passed-over args (suc n) k j l h = at (args_define (value_name k) args) refl h (passed-over args n (k + 1) j)
  where
    at : (b : Bool) → args_define (value_name k) args ≡ b → j < (if b then free_from args n (k + 1) else k) → (k + 1 ≤ j → j < free_from args n (k + 1) → args_define (value_name j) args ≡ true)
        → args_define (value_name j) args ≡ true
    at false q m go = absurd (omega (arith, l, m))
    at true q m go = by (nat_eq k j) refl
      where
        by : (c : Bool) → nat_eq k j ≡ c → args_define (value_name j) args ≡ true
        by true e = let z : k ≡ j = grind (arith, nat_tests) in subst (λ x. args_define (value_name x) args ≡ true) z q
        by false e = go (let z : k ≡ j → ⊥ = grind (arith, nat_tests) in omega (arith, l, z)) m

pub next-least : NextIsLeast
next-least args k w = record { from = (free_from-within args (length args) k).0; free = free-free args k w; least = λ j l h. passed-over args (length args) k j l h }

-- the name of a number
pub number-name : (k : ℕ) → k < 10 ^ 20 → IsName (value_name k)
number-name k b =
    let s : k < 10 ^ 64 = omega (arith, b) in
    let n : length (decimal k) ≤ 20 = length-decimal-le_wide 20 k (omega arith) b s in
    let m : length (value_name k) ≡ 1 + length (decimal k) = length-append (codes "v") (decimal k) in
    (omega (arith, m), omega (arith, m, n), all_name_bytes-append (codes "v") (decimal k) refl (decimal-named k s))
