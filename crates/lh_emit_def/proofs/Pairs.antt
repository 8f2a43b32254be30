-- The array of both terms of a choice is typed where it is within the limits.
use Rattle.std.proofs.Common.{◌≡◌, ◌+◌, ◌*◌, ◌≤◌, Bool, true, false, nat_lt, [], ◌∷◌, refl, subst, arith, inl, inr}
use Rattle.std.specs.Option.{is_none}
use Rattle.lh_types.specs.Types.{TypeTree, array_type, IsData, bit_count, depth_of}
use Rattle.lh_types.specs.Faults.{array_fault, is_data}
use Rattle.lh_types.specs.Values.{array_value, no_values, more_values}
use Rattle.lh_types.specs.declared.op.Op.TheVariants.{Array}
use Rattle.lh_term.specs.Tree.{Tree, constant, choice_of, operation_on}
use Rattle.lh_term.specs.Types.{IsValueType, IsTyped, type_of}
use Rattle.lh_term.specs.Make.{is_constant, value_in}
use Rattle.lh_term.specs.Laws.{MeansSame}
use Rattle.lh_term.proofs.TermTypes.{value_typed}
use Rattle.lh_term.proofs.Sound.{operation_sound}
use Rattle.lh_emit_def.specs.Needs.{pair_of}
use Rattle.lh_emit_def.proofs.ComputedTerms.{pair-constant}

within : (t : TypeTree) → is_none (array_fault 2 t) ≡ true → (is_data t ≡ true) × (depth_of t + 1 ≤ 16) × (2 * bit_count t ≤ 65536)
within t h = at (is_data t) (nat_lt 16 (depth_of t + 1)) (nat_lt 65536 (2 * bit_count t)) refl refl refl
  where
    at : (a b c : Bool) → is_data t ≡ a → nat_lt 16 (depth_of t + 1) ≡ b → nat_lt 65536 (2 * bit_count t) ≡ c → (is_data t ≡ true) × (depth_of t + 1 ≤ 16) × (2 * bit_count t ≤ 65536)
    at false b c p q r = let e : false ≡ true = (rw p at h) in absurd cc
    at true true c p q r = let e : false ≡ true = (rw (p, q) at h) in absurd cc
    at true false true p q r = let e : false ≡ true = (rw (p, q, r) at h) in absurd cc
    at true false false p q r = (p, grind (arith, q), grind (arith, r))

data-of : (t : TypeTree) → IsValueType t → is_data t ≡ true → IsData t
data-of t (inl d) h = d
data-of t (inr e) h = let g : false ≡ true = (rw e at h) in absurd cc

-- an array of two of these
pub array-data : (t : TypeTree) → IsValueType t → is_none (array_fault 2 t) ≡ true → IsData (array_type 2 t)
array-data t d h = let w = within t h in (data-of t d w.0, omega arith, omega arith, w.2, w.1)

pub pair-typed : (c f t : Tree) → IsTyped (choice_of c f t) → is_none (array_fault 2 (type_of f)) ≡ true → IsTyped (operation_on Array (f ∷ t ∷ []))
pair-typed c f t w h =
    let d : IsData (array_type 2 (type_of f)) = array-data (type_of f) (value_typed f w.1) h in
    let e : type_of f ≡ type_of t = w.3.1 in (
      (w.1, (w.2, tt)),
      record {
        gives = array_type 2 (type_of f);
        data_types = (d.0, (subst IsData e d.0, tt));
        row = (type_of f, omega arith, rw (← e) refl, refl);
        is_data = d;
      },
    )

pub pair-constant_typed : (c f t : Tree) → IsTyped (choice_of c f t) → is_none (array_fault 2 (type_of f)) ≡ true → is_constant f ≡ true → is_constant t ≡ true →
    IsTyped (constant (array_value (more_values (value_in f) (more_values (value_in t) no_values))))
pair-constant_typed c f t w h p q =
    let m : MeansSame (pair_of f t) (operation_on Array (f ∷ t ∷ [])) = operation_sound Array (f ∷ t ∷ []) (pair-typed c f t w h) in
    subst IsTyped (pair-constant f t p q) m.typed
