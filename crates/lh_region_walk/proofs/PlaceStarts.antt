-- A place may begin where edges join: the terms of one value are of one type on all of them.
use Rattle.std.proofs.Common.{◌≡◌, ℕ, List, [], ◌∷◌, true, false, Option, Some, None, refl, ap, sym, ◌∙◌, subst}
use Rattle.std.specs.Option.{is_some, option_and_then}
use Rattle.lh_types.specs.Types.{TypeTree, int_type, time_type, void_type, array_type, tuple_type, signal_type, pointer_type}
use Rattle.lh_unit.specs.Contents.{BlockText, UnitText}
use Rattle.lh_unit.specs.Typing.{value_type, is_value_type}
use Rattle.lh_unit.specs.Within.{Each}
use Rattle.lh_unit.proofs.Lists.{some_inj}
use Rattle.lh_term.specs.Tree.{Tree}
use Rattle.lh_term.specs.Types.{IsTyped, type_of}
use Rattle.lh_region_def.specs.Known.{Known, known_value, known_cell, known_part, Knowledge}
use Rattle.lh_region_def.specs.Joins.{RegionEdge}
use Rattle.lh_region_def.specs.Typed.{KnowsTyped, IsCondition, JoinEdge}
use Rattle.lh_region_def.proofs.Operations.{term-type}
use Rattle.lh_region.specs.Walking.{as_term, term_known, Story}
use Rattle.lh_region.specs.Begins.{AreOfType, CanBegin}
use Rattle.lh_region_walk.specs.Named.{KnowsNamed, EdgesNamed}

-- the type of the terms under a name of this type: a variable's is that of what it holds
abbrev held_type : TypeTree → TypeTree
held_type (pointer_type t) = t
held_type t = t

value-held : (ty t : TypeTree) → t ≡ ty → is_value_type t ≡ true → t ≡ held_type ty
value-held (int_type n) t e v = e
value-held time_type t e v = e
value-held void_type t e v = e
value-held (array_type n a) t e v = e
value-held (tuple_type ts) t e v = e
value-held (signal_type a) t e v = e
value-held (pointer_type a) t e v = let f : is_value_type (pointer_type a) ≡ true = ap is_value_type (sym e) ∙ v in absurd cc

known-held : (u : UnitText) (k : Knowledge) (n : List ℕ) (ty : TypeTree) (t : Tree) → KnowsTyped u k → value_type u n ≡ Some ty → term_known k n ≡ Some t → IsTyped t × (type_of t ≡ held_type ty)
known-held u k n ty t h v e = by (k n) refl e
  where
    by : (o : Option Known) → k n ≡ o → option_and_then as_term o ≡ Some t → IsTyped t × (type_of t ≡ held_type ty)
    by None q f = absurd cc
    by (Some (known_part p)) q f = absurd cc
    by (Some (known_value x)) q f =
        let g = h n (known_value x) ty q v in
        subst (λ (y : Tree). IsTyped y × (type_of y ≡ held_type ty)) (some_inj x t f) (g.0.0, value-held ty (type_of x) g.1 (term-type x g.0.0))
    by (Some (known_cell x)) q f =
        let g = h n (known_cell x) ty q v in
        subst (λ (y : Tree). IsTyped y × (type_of y ≡ held_type ty)) (some_inj x t f) (g.0, ap held_type g.1)

typed-edges : (u : UnitText) (b : BlockText) (n : List ℕ) (ty : TypeTree) (xs : List RegionEdge) → value_type u n ≡ Some ty → Each (JoinEdge u b) xs → AreOfType (held_type ty) n xs
typed-edges u b n ty [] v j = tt
typed-edges u b n ty (x ∷ xs) v j = (λ t e. known-held u x.known n ty t j.0.known v e, typed-edges u b n ty xs v j.1)

-- under a name without a type nothing is known
untyped : (u : UnitText) (k : Knowledge) (n : List ℕ) (t : Tree) → KnowsNamed u k → value_type u n ≡ None → term_known k n ≡ Some t → ⊥
untyped u k n t h v e = by (k n) refl e
  where
    by : (o : Option Known) → k n ≡ o → option_and_then as_term o ≡ Some t → ⊥
    by None q f = cc
    by (Some x) q f = let g : true ≡ false = sym (h n x q) ∙ ap is_some v in cc

untyped-edges : (u : UnitText) (n : List ℕ) (xs : List RegionEdge) → value_type u n ≡ None → EdgesNamed u xs → AreOfType void_type n xs
untyped-edges u n [] v h = tt
untyped-edges u n (x ∷ xs) v h = (λ t e. absurd (untyped u x.known n t h.0 v e), untyped-edges u n xs v h.1)

join-conditions : (u : UnitText) (b : BlockText) (xs : List RegionEdge) → Each (JoinEdge u b) xs → Each (λ (x : RegionEdge). IsCondition x.cond) xs
join-conditions u b [] j = tt
join-conditions u b (x ∷ xs) j = (j.0.cond, join-conditions u b xs j.1)

-- Edges that may join others at a block may begin a place of it, where what is known on them has names with types.
pub can-begin : (u : UnitText) (b : BlockText) (s : Story) (xs : List RegionEdge) → Each (JoinEdge u b) xs → EdgesNamed u xs → CanBegin s xs
can-begin u b s xs j h = record {
  conds = join-conditions u b xs j;
  typed = λ v l. by (s.naming.value_name v) (value_type u (s.naming.value_name v)) refl;
}
  where
    by : (n : List ℕ) (o : Option TypeTree) → value_type u n ≡ o → (ty : TypeTree) × AreOfType ty n xs
    by n None e = (void_type, untyped-edges u n xs e h)
    by n (Some ty) e = (held_type ty, typed-edges u b n ty xs e j)
