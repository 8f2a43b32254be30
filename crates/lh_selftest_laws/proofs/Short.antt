-- How long the text of a chain is.
use Rattle.std.proofs.Common.{◌≡◌, ℕ, zero, suc, ◌+◌, ◌*◌, ◌<◌, ◌≤◌, List, ◌++◌, length, decimal, arith, length-append}
use Rattle.std.specs.List.{flat_map, range_with_len}
use Rattle.std.specs.Prelude.{codes}
use Rattle.lh_selftest_design.specs.Generated.{chain_begins, signals_of, register_line, adder_line, instances_of, chain_ends, register, adder, testbench}
use Rattle.lh_selftest_laws.specs.Laws.{GeneratedIsShort}
use Rattle.lh_selftest_laws.proofs.Names.{number-short}

-- texts of numbers below b, each of at most c bytes
texts-short : (f : ℕ → List ℕ) (c b a n : ℕ) → ((i : ℕ) → i < b → length (f i) ≤ c) → a + n ≤ b → length (flat_map f (range_with_len a n)) ≤ n * c
texts-short f c b a zero h l = omega arith
texts-short f c b a (suc n) h l =
    let m : a < b = omega arith in
    let k : a + 1 + n ≤ b = omega arith in
    omega (arith, length-append (f a) (flat_map f (range_with_len (a + 1) n)), h a m, texts-short f c b (a + 1) n h k)

signals-within : (m n : List ℕ) → length m ≤ 4 → length n ≤ 4 → length (codes "    %d" ++ m ++ codes " = sig i32 %z\n" ++ codes "    %x" ++ n ++ codes " = sig i32 %z\n") ≤ 112
signals-within m n p q = simp length-append (omega arith)

register-within : (m n : List ℕ) → length m ≤ 4 → length n ≤ 4 → length (codes "    inst @ff (i1$ %clk, i32$ %d" ++ m ++ codes ") -> (i32$ %x" ++ n ++ codes ")\n") ≤ 112
register-within m n p q = simp length-append (omega arith)

adder-within : (m n k : List ℕ) → length m ≤ 4 → length n ≤ 4 → length k ≤ 4 → length (codes "    inst @comb (i32$ %x" ++ m ++ codes ", i32$ %x" ++ n ++ codes ") -> (i32$ %d" ++ k ++ codes ")\n")
    ≤ 112
adder-within m n k p q r = simp length-append (omega arith)

signals-short : (i : ℕ) → i < 1000 → length (signals_of i) ≤ 112
signals-short i h = signals-within (decimal i) (decimal (i + 1)) (number-short i (omega arith)) (number-short (i + 1) (omega arith))

register-short : (i : ℕ) → i < 1000 → length (register_line i) ≤ 112
register-short i h = register-within (decimal i) (decimal (i + 1)) (number-short i (omega arith)) (number-short (i + 1) (omega arith))

adder-short : (i : ℕ) → i < 1000 → length (adder_line i) ≤ 112
adder-short i h = adder-within (decimal (i + 1)) (decimal i) (decimal i) (number-short (i + 1) (omega arith)) (number-short i (omega arith)) (number-short i (omega arith))

instances-short : (i : ℕ) → i < 1000 → length (instances_of i) ≤ 224
instances-short i h = omega (arith, length-append (register_line i) (adder_line i), register-short i h, adder-short i h)

whole-short : (a s i e r d t : List ℕ) → length a + length e + length r + length d + length t ≤ 100000 → length s ≤ 112000 → length i ≤ 224000 → length ((a ++ s ++ i ++ e) ++ r ++ d ++ t) ≤ 67108864
whole-short a s i e r d t h p q = let k : length ((a ++ s ++ i ++ e) ++ r ++ d ++ t) ≡ length a + length s + length i + length e + length r + length d + length t = simp length-append in omega arith

pub generated-short : GeneratedIsShort
generated-short n h =
    let p : n * 112 ≤ 112000 = omega arith in
    let q : n * 224 ≤ 224000 = omega arith in
    let s : length (flat_map signals_of (range_with_len 0 n)) ≤ n * 112 = texts-short signals_of 112 1000 0 n signals-short (omega arith) in
    let i : length (flat_map instances_of (range_with_len 0 n)) ≤ n * 224 = texts-short instances_of 224 1000 0 n instances-short (omega arith) in
    whole-short chain_begins (flat_map signals_of (range_with_len 0 n)) (flat_map instances_of (range_with_len 0 n)) chain_ends register adder testbench (omega arith) (omega arith) (omega arith)
