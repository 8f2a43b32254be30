-- Half of a power of two, twice.
use Rattle.std.proofs.Common.{◌≡◌, ℕ, ◌+◌, ◌-◌, ◌<◌, ◌≤◌, zero, suc, true, Some, nat_le, ap, ◌∙◌, arith}
use Rattle.std.specs.Prelude.{◌^◌}
use Rattle.std.proofs.Math.Nat.{mod-eq_of_lt, two-pow-succ}
use Rattle.std.proofs.lemmas.Grind.{common_steps}
use Rattle.lh_read_pieces.specs.Numbers.{negative_bits}

two_halves : (n : ℕ) → 1 ≤ n → 2 ^ n ≡ 2 ^ (n - 1) + 2 ^ (n - 1)
two_halves zero h = absurd (omega arith)
two_halves (suc n) h = let e : suc n - 1 ≡ n = omega arith in rw e (two-pow-succ n)

-- -k in two's complement
pub negative-some : (n k : ℕ) → 1 ≤ n → 1 ≤ k → k ≤ 2 ^ (n - 1) → negative_bits n (Some k) ≡ Some (2 ^ (n - 1) - k + 2 ^ (n - 1))
negative-some n k h l u =
    let e = two_halves n h in
    let t : nat_le k (2 ^ (n - 1)) ≡ true = within k (2 ^ (n - 1)) u in
    let m : 2 ^ n - k < 2 ^ n = omega arith in
    let v : 2 ^ n - k ≡ 2 ^ (n - 1) - k + 2 ^ (n - 1) = omega arith in
    rw t (ap Some (mod-eq_of_lt m ∙ v))
  where
    within : (x y : ℕ) → x ≤ y → nat_le x y ≡ true
    within x y w = grind (arith, common_steps)
