-- Texts of other lengths.
use Rattle.std.proofs.Common.{◌≡◌, ◌≢◌, ℕ, Bool, true, false, nat_eq, List, length, refl, ap, sym, arith}
use Rattle.std.specs.Cmp.Lexicographic.{same_text}
use lib.Pointwise.{pointwise}

by_test : (t : Bool) (a b : List ℕ) → pointwise nat_eq a b ≡ t → length a ≢ length b → pointwise nat_eq a b ≡ false
by_test true a b e n = let l : length a ≡ length b = ap length (same_text a b (sym e)) in absurd (omega arith)
by_test false a b e n = e

pub apart : (a b : List ℕ) → length a ≢ length b → pointwise nat_eq a b ≡ false
apart a b n = by_test (pointwise nat_eq a b) a b refl n
