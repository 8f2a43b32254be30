-- A step into a data type leads to a data type, and its numbers are small.
use Rattle.std.proofs.Common.{◌≡◌, ℕ, zero, suc, ◌+◌, ◌*◌, ◌<◌, ◌≤◌, ◌^◌, ◌&&◌, nat_lt, nat_le, [], ◌∷◌, Option, Some, None, refl, ap, subst, arith}
use Rattle.std.specs.Option.{option_and_then, option_map}
use Rattle.std.proofs.lemmas.Bool.Decides.{nat_tests}
use Rattle.lh_types.specs.Types.{TypeTree, TypeRow, int_type, array_type, tuple_type, no_types, more_types, bit_count, bit_count_row, IsData, AreData}
use Rattle.lh_types.specs.Parts.{Part as TypePart, part_beyond, part_of, field_part, step_part}
use Rattle.lh_types.specs.ApplyTypes.{PartHasType}
use Rattle.lh_types.specs.declared.op.Op.{Op}
use Rattle.lh_types.specs.declared.op.Op.TheVariants as op
use Rattle.lh_types.specs.declared.part.Step.{Step}
use Rattle.lh_types.specs.declared.part.Step.TheVariants.{Field, Slice}
use Rattle.lh_types.proofs.Limits.{one_le-bit_count}
use Rattle.lh_types.proofs.PartLemmas.{part_if-holds, part_beyond-holds, slice_facts}
use Rattle.lh_bits.proofs.LawProofs.{parts_are_within}
use Rattle.lh_unit.proofs.Lists.{some_inj}
use Rattle.lh_term.specs.declared.part.Part.{Part}
use Rattle.lh_emit_def.specs.Ways.{part_by_step, part_by}

-- the numbers of a step are below 2^32
abbrev pub IsSmall : Step → Type 0
IsSmall (Field k) = k < 2 ^ 32
IsSmall (Slice at len) = (at < 2 ^ 32) × (len < 2 ^ 32)

field-small : (ts : TypeRow) (k : ℕ) (p : TypePart) → AreData ts → field_part ts k ≡ Some p → k < bit_count_row ts
field-small no_types k p d e = absurd cc
field-small (more_types t ts) zero p d e = let b : 1 ≤ bit_count t = one_le-bit_count t d.0 in omega (arith, b)
field-small (more_types t ts) (suc k) p d e =
    let b : 1 ≤ bit_count t = one_le-bit_count t d.0 in
    part_beyond-holds (λ q. suc k < bit_count t + bit_count_row ts) (bit_count t) (field_part ts k) p e
    (λ q h. let c : k < bit_count_row ts = field-small ts k q d.1 h in omega (arith, b, c))

step-small : (t : TypeTree) (s : Step) (p : TypePart) → IsData t → step_part t s ≡ Some p → IsSmall s
step-small (array_type n t) (Field k) p d e =
    let w : n < 2 ^ 32 = d.2 in
    part_if-holds (λ q. k < 2 ^ 32) (nat_lt k n) (k * bit_count t) t p e (λ h. let l : k < n = grind (arith, nat_tests) in omega (arith, l, w))
step-small (tuple_type ts) (Field k) p d e =
    let l : k < bit_count_row ts = field-small ts k p d.0 e in
    let w : bit_count_row ts ≤ 65536 = d.2 in
    omega (arith, l, w)
step-small (int_type n) (Slice at len) p d e =
    let w : n ≤ 128 = d.1 in
    part_if-holds (λ q. (at < 2 ^ 32) × (len < 2 ^ 32)) (nat_le 1 len && nat_le (at + len) n) at (int_type len) p e
    (λ h. let l : at + len ≤ n = (slice_facts len at n h).1 in (omega (arith, l, w), omega (arith, l, w)))
step-small (array_type n t) (Slice at len) p d e =
    let w : n < 2 ^ 32 = d.2 in
    part_if-holds (λ q. (at < 2 ^ 32) × (len < 2 ^ 32)) (nat_le 1 len && nat_le (at + len) n) (at * bit_count t) (array_type len t) p e
    (λ h. let l : at + len ≤ n = (slice_facts len at n h).1 in (omega (arith, l, w), omega (arith, l, w)))
step-small _ _ p d e = absurd cc

-- the step of a row
pub has-small : (t : TypeTree) (s : Step) (r : TypeTree) → IsData t → PartHasType t s r → IsSmall s
has-small t s r d h = at (step_part t s) refl h
  where
    at : (o : Option TypePart) → step_part t s ≡ o → option_map (λ (p : TypePart). p.of) o ≡ Some r → IsSmall s
    at None q k = absurd cc
    at (Some p) q k = step-small t s p d q

step-data : (t : TypeTree) (s : Step) (p : TypePart) → IsData t → step_part t s ≡ Some p → IsData p.of
step-data t s p d q =
    let x : TypePart = record { lo = 0; of = p.of } in
    let k : part_of t (s ∷ []) ≡ Some (part_beyond p.lo x) = ap (option_and_then (λ (y : TypePart). option_map (part_beyond y.lo) (part_of y.of []))) q in
    (parts_are_within t (s ∷ []) (part_beyond p.lo x) d k).0

-- a step from a part of a data type
pub record StepsWell (to : Part) (s : Step) : Type 0 where
  pub is_data : IsData to.ty
  pub small : IsSmall s

pub step-well : (q to : Part) (s : Step) → IsData q.ty → part_by_step q s ≡ Some to → StepsWell to s
step-well q to s d h = at (step_part q.ty s) refl h
  where
    at : (o : Option TypePart) → step_part q.ty s ≡ o → option_map (λ (a : TypePart). let z : Part = record { arg = q.arg; lo = q.lo + a.lo; ty = a.of } in z) o ≡ Some to → StepsWell to s
    at None e k = absurd cc
    at (Some a) e k =
        let z : a.of ≡ to.ty = ap (λ (x : Part). x.ty) (some_inj _ to k) in
        record { is_data = subst IsData z (step-data q.ty s a d e); small = step-small q.ty s a d e }

-- an operation leads from a part of a data type to one
pub step-well-to : (q to : Part) (o : Op) → IsData q.ty → part_by q o ≡ Some to → IsData to.ty
step-well-to q to (op.Extf k) d h = (step-well q to (Field k) d h).is_data
step-well-to q to (op.Exts at len) d h = (step-well q to (Slice at len) d h).is_data
step-well-to q to _ d h = absurd cc
