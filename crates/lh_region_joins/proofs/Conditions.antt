-- Conditions of an arena, and what becomes of them as it grows.
use Rattle.std.proofs.Common.{◌≡◌, List, [], ◌∷◌, ◌++◌, refl, ap, sym, subst}
use Rattle.lh_types.specs.Types.{TypeTree, int_type, IsData}
use Rattle.lh_types.specs.declared.op.Op.TheVariants.{And, Or}
use Rattle.lh_term.specs.Tree.{Tree}
use Rattle.lh_term.specs.Types.{type_of, TakesTypes}
use Rattle.lh_term.specs.Arena.{StandsForTree, Grows}
use Rattle.lh_term.specs.declared.term.TermId.{TermId}
use Rattle.lh_term.specs.declared.term.TermNode.{TermNode}
use Rattle.lh_term.proofs.Sound.{one_wide}
use Rattle.lh_term.proofs.Swaps.{tree_grown, in_grown}
use Rattle.lh_region_def.specs.Typed.{IsCondition}
use Rattle.lh_region_joins.specs.declared.edge.Edge.{Edge}
use Rattle.lh_region_joins.specs.Joins.{IsConditionAt, AreConditions, edge_on, edges_on}

pub takes-and : (x y : Tree) → IsCondition x → IsCondition y → TakesTypes And (type_of x ∷ type_of y ∷ [])
takes-and x y i j =
    let P : TypeTree → Type 0 = IsData in
    let e = i.type in
    let f = j.type in
    record { gives = int_type 1; data_types = (subst P (sym e) one_wide, (subst P (sym f) one_wide, tt)); row = (1, (λ k. e k ∷ f k ∷ []), refl); is_data = one_wide }

pub takes-or : (x y : Tree) → IsCondition x → IsCondition y → TakesTypes Or (type_of x ∷ type_of y ∷ [])
takes-or x y i j =
    let P : TypeTree → Type 0 = IsData in
    let e = i.type in
    let f = j.type in
    record { gives = int_type 1; data_types = (subst P (sym e) one_wide, (subst P (sym f) one_wide, tt)); row = (1, (λ k. e k ∷ f k ∷ []), refl); is_data = one_wide }

pub condition-grown : (old new : List TermNode) (t : TermId) → Grows old new → IsConditionAt old t → IsConditionAt new t
condition-grown old new t g c = record { is_in = in_grown old new g t c.is_in; cond = subst IsCondition (sym (tree_grown old new g t c.is_in)) c.cond }

pub conditions-grown : (old new : List TermNode) (es : List Edge) → Grows old new → AreConditions old es → AreConditions new es
conditions-grown old new [] g c = tt
conditions-grown old new (e ∷ more) g c = (condition-grown old new e.cond g c.0, conditions-grown old new more g c.1)

pub edges-grown : (old new : List TermNode) (es : List Edge) → Grows old new → AreConditions old es → edges_on new es ≡ edges_on old es
edges-grown old new [] g c = refl
edges-grown old new (e ∷ more) g c =
    let a = tree_grown old new g e.cond c.0.is_in in
    let b = edges-grown old new more g c.1 in
    λ i. edge_on (a i) ∷ b i

-- a term that stands for a condition
pub stands-condition : (ns : List TermNode) (t : TermId) (x : Tree) → StandsForTree ns t x → IsCondition x → IsConditionAt ns t
stands-condition ns t x s c = record { is_in = s.is_in; cond = subst IsCondition (sym s.tree) c }

pub grows-none : (ns : List TermNode) → Grows ns ns
grows-none ns = ([], sym (nil ns))
  where
    nil : (xs : List TermNode) → xs ++ [] ≡ xs
    nil [] = refl
    nil (x ∷ xs) = ap (λ (ys : List TermNode). x ∷ ys) (nil xs)
