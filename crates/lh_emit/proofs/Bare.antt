-- Values that are added without types, one after the other.
use Rattle.std.proofs.Common.{◌≡◌, ◌<◌, ◌-◌, ◌≤◌, List, [], ◌∷◌, ◌++◌, length, map, take, drop, get_or, refl, ap, ◌∙◌, arith, append_assoc}
use Rattle.std.proofs.Math.Seq.{take-length}
use Rattle.lh_types.specs.Types.{TypeTree}
use Rattle.lh_unit.specs.declared.inst.Typed.{Typed}
use Rattle.lh_unit.specs.declared.inst.ValueId.{ValueId}
use Rattle.lh_emit.specs.Operands.{with_type, without_type, first_with_type}

rest-of : (v : ValueId) (vs : List ValueId) → take (length (v ∷ vs) - 1) (drop 1 (v ∷ vs)) ≡ vs
rest-of v vs = let e : length (v ∷ vs) - 1 ≡ length vs = omega arith in ap (λ n. take n vs) e ∙ take-length vs

-- those so far, and those that are left
abbrev pub Adds : (all so_far : List Typed) → (left : List ValueId) → Type 0
Adds all so_far left = so_far ++ map without_type left ≡ all

pub adds-next : (all so_far more : List Typed) (left : List ValueId) (d : ValueId) → Adds all so_far left → 1 ≤ length left → more ≡ so_far ++ without_type (get_or left 0 d) ∷ [] →
    Adds all more (take (length left - 1) (drop 1 left))
adds-next all so_far more [] d h l m = absurd (omega (arith, l))
adds-next all so_far more (v ∷ vs) d h l m =
    let r : take (length (v ∷ vs) - 1) (drop 1 (v ∷ vs)) ≡ vs = rest-of v vs in
    (λ i. m i ++ map without_type (r i)) ∙ append_assoc so_far (without_type v ∷ []) (map without_type vs) ∙ h

-- the first with a type, and then the others
pub first-added : (t : TypeTree) (one all : List Typed) (vs : List ValueId) (d : ValueId) → 1 ≤ length vs → one ≡ with_type t (get_or vs 0 d) ∷ []
    → all ≡ one ++ map without_type (take (length vs - 1) (drop 1 vs)) →
    all ≡ first_with_type t vs
first-added t one all [] d l p q = absurd (omega (arith, l))
first-added t one all (v ∷ vs) d l p q =
    let r : take (length (v ∷ vs) - 1) (drop 1 (v ∷ vs)) ≡ vs = rest-of v vs in
    q ∙ (λ i. p i ++ map without_type (r i))

pub none-added : (t : TypeTree) (vs : List ValueId) → length vs < 1 → [] ≡ first_with_type t vs
none-added t [] l = refl
none-added t (v ∷ vs) l = absurd (omega (arith, l))
