-- A part has one value where its bits agree, whatever else the signals are. Bits that are missing count as 0.
use Rattle.std.proofs.Common.{◌≡◌, ℕ, zero, suc, ◌+◌, ◌<◌, ◌≤◌, List, [], ◌∷◌, ◌++◌, length, take, replicate, Bool, true, false, refl, ap, sym, ◌∙◌, arith}
use Rattle.std.proofs.lemmas.List.{length-append}
use Rattle.lh_types.specs.Types.{TypeTree}
use Rattle.lh_types.specs.Bits.{value_from_bits}
use Rattle.lh_types.specs.Parts.{bits_within}
use Rattle.lh_types.specs.declared.part.Range.{Range}
use Rattle.lh_unit.specs.Held.{bits_in}
use Rattle.lh_unit.specs.World.{bits_from, bit_at}
use Rattle.lh_trace_laws.proofs.BitSets.{has, IsWithin}
use Rattle.lh_term.specs.declared.part.Part.{Part}
use Rattle.lh_term.proofs.Walks.{replicate_length}
use Rattle.lh_region_def.specs.Means.{range_in, reads}
use Rattle.lh_entity_laws.proofs.Bits.{row-has}

-- bits with n zeros behind them
abbrev pub with_zeros : List Bool → ℕ → List Bool
with_zeros bits n = bits ++ replicate n false

-- the bit of each number is the same
abbrev pub ZerosAreMissing : Type 0
ZerosAreMissing = (bits : List Bool) (n k : ℕ) → bit_at bits k ≡ bit_at (with_zeros bits n) k

-- so is the value that a part of the signals has
abbrev pub ZerosReadAlike : Type 0
ZerosReadAlike = (t : TypeTree) (now : List Bool) (r : Range) (n : ℕ) → value_from_bits t (bits_in now r) ≡ value_from_bits t (bits_in (with_zeros now n) r)

first-bits : (n : ℕ) (v w : List Bool) → n ≤ length v → n ≤ length w → ((k : ℕ) → k < n → bit_at v k ≡ bit_at w k) → take n v ≡ take n w
first-bits zero v w a b h = refl
first-bits (suc n) [] w a b h = absurd (omega (arith, a))
first-bits (suc n) (x ∷ v) [] a b h = absurd (omega (arith, b))
first-bits (suc n) (x ∷ v) (y ∷ w) a b h =
    let here : x ≡ y = h 0 (omega arith) in
    let rest : take n v ≡ take n w = first-bits n v w (omega (arith, a)) (omega (arith, b)) (λ k l. h (suc k) (omega (arith, l))) in
    λ i. here i ∷ rest i

within-bits : (lo n : ℕ) (v w : List Bool) → lo + n ≤ length v → lo + n ≤ length w → ((k : ℕ) → lo ≤ k → k < lo + n → bit_at v k ≡ bit_at w k) → bits_within lo n v ≡ bits_within lo n w
within-bits zero n v w a b h = first-bits n v w (omega (arith, a)) (omega (arith, b)) (λ k l. h k (omega arith) (omega (arith, l)))
within-bits (suc lo) n [] w a b h = absurd (omega (arith, a))
within-bits (suc lo) n (x ∷ v) [] a b h = absurd (omega (arith, b))
within-bits (suc lo) n (x ∷ v) (y ∷ w) a b h = within-bits lo n v w (omega (arith, a)) (omega (arith, b)) (λ k l u. h (suc k) (omega (arith, l)) (omega (arith, u)))

long-enough : (v : List Bool) (n : ℕ) → n ≤ length (with_zeros v n)
long-enough v n = let e = length-append v (replicate n false) in let z = replicate_length n in omega (arith, e, z)

pub values-agree : ZerosAreMissing → ZerosReadAlike → (args : List Range) (p : Part) (v w : List Bool)
    → ((k : ℕ) → has (bits_from (range_in args p).lo (range_in args p).len) k ≡ true → bit_at v k ≡ bit_at w k) → reads args v p ≡ reads args w p
values-agree z y args p v w h =
    let r : Range = range_in args p in
    let n : ℕ = r.lo + r.len in
    let same : bits_within r.lo r.len (with_zeros v n) ≡ bits_within r.lo r.len (with_zeros w n) =
    within-bits r.lo r.len (with_zeros v n) (with_zeros w n) (long-enough v n) (long-enough w n) (λ k l u. sym (z v n k) ∙ h k (row-has r.lo r.len k l u) ∙ z w n k) in
    y p.ty v r n ∙ ap (value_from_bits p.ty) same ∙ sym (y p.ty w r n)

-- so have parts whose bits are all among numbers at which the signals agree
pub values-agree-within : ZerosAreMissing → ZerosReadAlike → (args : List Range) (ks : List ℕ) (p : Part) (v w : List Bool)
    → IsWithin (bits_from (range_in args p).lo (range_in args p).len) ks → ((k : ℕ) → has ks k ≡ true → bit_at v k ≡ bit_at w k) → reads args v p ≡ reads args w p
values-agree-within z y args ks p v w i h = values-agree z y args p v w (λ k e. h k (i k e))
