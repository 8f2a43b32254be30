-- The bits of a part lie within those of the whole.
use Rattle.std.proofs.Common.{◌≡◌, ℕ, zero, suc, ◌+◌, ◌*◌, ◌≤◌, Bool, true, false, ◌&&◌, nat_lt, nat_le, Option, Some, None, refl, subst, arith, mul-le-mul_left}
use Rattle.std.proofs.lemmas.Bool.Decides.{nat_tests}
use Rattle.std.specs.Option.{option_map}
use Rattle.std.proofs.lemmas.Bool.{and_parts}
use Rattle.std.proofs.lemmas.Option.{none-some}
use Rattle.lh_types.specs.Types.{TypeTree, TypeRow, int_type, array_type, tuple_type, no_types, more_types, bit_count, bit_count_row}
use Rattle.lh_types.specs.Parts.{Part, part_beyond, part_if, field_part}
use Rattle.lh_types.specs.declared.part.Step.TheVariants.{Field, Slice}
use Rattle.lh_verify_laws.specs.Parts.{PartsLieWithin}

abbrev LiesIn : ℕ → Part → Type 0
LiesIn n p = p.lo + bit_count p.of ≤ n

element_within : (k n w : ℕ) → nat_lt k n ≡ true → k * w + w ≤ n * w
element_within k n w h = let l : k + 1 ≤ n = grind (arith, nat_tests) in let q : w * (k + 1) ≤ w * n = mul-le-mul_left w l in grind arith

slice_within : (at len n w : ℕ) → nat_le (at + len) n ≡ true → at * w + len * w ≤ n * w
slice_within at len n w h = let l : at + len ≤ n = grind (arith, nat_tests) in let q : w * (at + len) ≤ w * n = mul-le-mul_left w l in grind arith

bits_within_it : (at len n : ℕ) → nat_le (at + len) n ≡ true → at + len ≤ n
bits_within_it at len n h = grind (arith, nat_tests)

chosen : (b : Bool) (lo : ℕ) (t : TypeTree) (n : ℕ) (p : Part) → (b ≡ true → lo + bit_count t ≤ n) → part_if b lo t ≡ Some p → LiesIn n p
chosen false lo t n p f h = absurd (none-some _ h)
chosen true lo t n p f h = let q : Part = record { lo = lo; of = t } in let e : q ≡ p = cc in subst (LiesIn n) e (f refl)

first_within : (w more : ℕ) → 0 + w ≤ w + more
first_within w more = omega arith

later_within : (w lo len more : ℕ) → lo + len ≤ more → w + lo + len ≤ w + more
later_within w lo len more h = omega (arith, h)

field_within : (r : TypeRow) (k : ℕ) (p : Part) → field_part r k ≡ Some p → LiesIn (bit_count_row r) p
field_within no_types k p h = absurd (none-some _ h)
field_within (more_types t ts) zero p h = let q : Part = record { lo = 0; of = t } in let e : q ≡ p = cc in
    subst (LiesIn (bit_count t + bit_count_row ts)) e (first_within (bit_count t) (bit_count_row ts))
field_within (more_types t ts) (suc k) p h = at (field_part ts k) (field_within ts k) h
  where
    at : (o : Option Part) → ((q : Part) → o ≡ Some q → LiesIn (bit_count_row ts) q) → option_map (part_beyond (bit_count t)) o ≡ Some p → LiesIn (bit_count t + bit_count_row ts) p
    at None f g = absurd (none-some _ g)
    at (Some q) f g = let e : part_beyond (bit_count t) q ≡ p = cc in subst (LiesIn (bit_count t + bit_count_row ts)) e (later_within (bit_count t) q.lo (bit_count q.of) (bit_count_row ts) (f q refl))

pub parts_lie_within : PartsLieWithin
parts_lie_within (array_type n t) (Field k) p h = chosen (nat_lt k n) (k * bit_count t) t (n * bit_count t) p (element_within k n (bit_count t)) h
parts_lie_within (tuple_type ts) (Field k) p h = field_within ts k p h
parts_lie_within (int_type n) (Slice at len) p h = chosen (nat_le 1 len && nat_le (at + len) n) at (int_type len) n p
    (λ b. bits_within_it at len n (and_parts (nat_le 1 len) (nat_le (at + len) n) b).1) h
parts_lie_within (array_type n t) (Slice at len) p h =
    chosen (nat_le 1 len && nat_le (at + len) n) (at * bit_count t) (array_type len t) (n * bit_count t) p
    (λ b. slice_within at len n (bit_count t) (and_parts (nat_le 1 len) (nat_le (at + len) n) b).1) h
parts_lie_within _ _ p h = absurd (none-some _ h)
