-- Rows of written types, and arrays that no type is.
use Rattle.std.proofs.Common.{◌≡◌, ℕ, ◌+◌, ◌*◌, ◌<◌, ◌≤◌, Bool, true, false, List, [], ◌∷◌, ◌++◌, map, length, get_or, Option, Some, None, Result, Ok, Err, refl, ap, ◌∙◌, subst, arith, mul-le-mul_left}
use Rattle.std.specs.Prelude.{nat_lt, nat_eq, if◌then◌else◌, option_map, IfOk}
use Rattle.std.proofs.Common.{not, ◌⊎◌, inl, inr, drop}
use Rattle.std.proofs.lemmas.Grind.{common_steps}
use Rattle.lh_types.specs.Types.{TypeTree, TypeRow, array_type, no_types, row_of, IsData, bit_count, depth_of}
use Rattle.lh_types.specs.Faults.{is_data}
use Rattle.lh_types.specs.declared.ty.TyFault.{TyFault}
use Rattle.lh_types.specs.declared.ty.TyFault.TheVariants.{TooManyBits, TooDeep, Empty, WrongPart}
use Rattle.lh_unit.specs.Typing.{array_made, if_made, with_type, operand_types}
use Rattle.lh_unit.specs.Naming.{Naming, operand_text}
use Rattle.lh_unit.specs.declared.inst.Typed.{Typed}
use Rattle.std.proofs.lemmas.List.{drop_all}
use Rattle.lh_unit.proofs.Lists.{drop-item}
use Rattle.lh_types.proofs.Limits.{one_le-bit_count}
use Rattle.lh_verify_values.specs.Rows.{rows_joined}
use Rattle.lh_verify_values.specs.Given.{type_given}
use Rattle.lh_verify_values.specs.declared.results.GivenType.{GivenType}

-- one more type in front of a row, or none
pub joined-more : (ts : List TypeTree) (t : TypeTree) (r : Option TypeRow) → rows_joined (ts ++ t ∷ []) r ≡ rows_joined ts (with_type (Some t) r)
joined-more [] t r = refl
joined-more (x ∷ ts) t r = ap (with_type (Some x)) (joined-more ts t r)

pub joined-none : (ts : List TypeTree) → rows_joined ts None ≡ None
joined-none [] = refl
joined-none (x ∷ ts) = ap (with_type (Some x)) (joined-none ts)

pub joined-row : (ts : List TypeTree) → rows_joined ts (Some no_types) ≡ Some (row_of ts)
joined-row [] = refl
joined-row (x ∷ ts) = ap (with_type (Some x)) (joined-row ts)

-- a written type in front of those behind it
pub written-none : (f : Naming) (xs : List Typed) (i : ℕ) (x : Typed) → i < length xs → x ≡ get_or xs i x → x.ty ≡ None → operand_types (map (operand_text f) (drop i xs)) ≡ None
written-none f xs i x h e n = ap (λ l. operand_types (map (operand_text f) l)) (drop-item xs i x h e) ∙ ap (λ o. with_type o (operand_types (map (operand_text f) (drop (i + 1) xs)))) n

pub written-some : (f : Naming) (xs : List Typed) (i : ℕ) (x : Typed) (t : TypeTree) → i < length xs → x ≡ get_or xs i x → x.ty ≡ Some t
    → operand_types (map (operand_text f) (drop i xs)) ≡ with_type (Some t) (operand_types (map (operand_text f) (drop (i + 1) xs)))
written-some f xs i x t h e n = ap (λ l. operand_types (map (operand_text f) l)) (drop-item xs i x h e) ∙ ap (λ o. with_type o (operand_types (map (operand_text f) (drop (i + 1) xs)))) n

pub written-end : (f : Naming) (xs : List Typed) (i : ℕ) → length xs ≤ i → operand_types (map (operand_text f) (drop i xs)) ≡ Some no_types
written-end f xs i h = ap (λ l. operand_types (map (operand_text f) l)) (drop_all i xs h)

-- no array of what is no data, and of too many
no-array : (a b d e : Bool) (w x y z : TyFault) (t : TypeTree) → (b ≡ true) ⊎ (e ≡ true)
    → None ≡ if_made (if a then Some w else (if b then Some x else (if d then Some y else (if e then Some z else None)))) t
no-array true b d e w x y z t h = refl
no-array false true d e w x y z t h = refl
no-array false false true e w x y z t h = refl
no-array false false false true w x y z t h = refl
no-array false false false false w x y z t (inl h) = absurd cc
no-array false false false false w x y z t (inr h) = absurd cc

pub not-data : (n : ℕ) (t : TypeTree) → is_data t ≡ false → None ≡ array_made n t
not-data n t h = no-array (nat_eq n 0) (not (is_data t)) (nat_lt 16 (depth_of t + 1)) (nat_lt 65536 (n * bit_count t)) Empty WrongPart TooDeep TooManyBits (array_type n t) (inl (ap not h))

pub too-many : (n : ℕ) (t : TypeTree) → IsData t → 65536 < n → None ≡ array_made n t
too-many n t d h =
    let p : 1 ≤ bit_count t = one_le-bit_count t d in
    let q : n * 1 ≤ n * bit_count t = mul-le-mul_left n p in
    let r : nat_lt 65536 (n * bit_count t) ≡ true = above (n * bit_count t) (omega (arith, q)) in
    no-array (nat_eq n 0) (not (is_data t)) (nat_lt 16 (depth_of t + 1)) (nat_lt 65536 (n * bit_count t)) Empty WrongPart TooDeep TooManyBits (array_type n t) (inr r)
  where
    above : (m : ℕ) → 65536 < m → nat_lt 65536 m ≡ true
    above m l = grind (arith, common_steps)

-- what a type that was made is given as
pub given-made : {E : Type 0} (r : Result (Option TypeTree) E) (g : Result (Option GivenType) E) (x y : Option TypeTree) → IfOk g (λ o. r ≡ Ok (option_map type_given o)) → IfOk r (λ o. o ≡ x) → x ≡ y
    → IfOk g (λ o. option_map type_given o ≡ y)
given-made {E} r (Ok o) x y e h q = subst (λ (z : Result (Option TypeTree) E). IfOk z (λ t. t ≡ x)) e h ∙ q
given-made r (Err k) x y e h q = tt
