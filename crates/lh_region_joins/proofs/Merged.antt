-- What is merged depends on the conditions of edges alone.
use Rattle.std.proofs.Common.{◌≡◌, List, [], ◌∷◌, map, Bool, false, ◌&&◌, not, Some, refl, ap, ◌∙◌}
use Rattle.std.specs.List.{filter, list_any}
use Rattle.lh_types.specs.declared.op.Op.TheVariants.{Or}
use Rattle.lh_term.specs.Tree.{Tree}
use Rattle.lh_term.specs.SameTree.{same_tree}
use Rattle.lh_term.specs.Make.{bit_of, make_operation, make_choice}
use Rattle.lh_term.specs.Conjuncts.{conjuncts_of, conjunction}
use Rattle.lh_region_def.specs.Joins.{RegionEdge, or_any, in_each, selector, chosen_from}
use Rattle.lh_region_joins.specs.Joins.{edge_on, on_conditions, chosen_by, MergedByConditions, TakenByConditions}

or-same : (c : Tree) (es : List RegionEdge) → or_any c es ≡ or_any c (on_conditions es)
or-same c [] = refl
or-same c (e ∷ more) = or-same (make_operation Or (c ∷ e.cond ∷ [])) more

pub taken-by-conditions : TakenByConditions
taken-by-conditions es = or-same (bit_of false) es

in-same : (es : List RegionEdge) (c : Tree) → in_each es c ≡ in_each (on_conditions es) c
in-same [] c = refl
in-same (e ∷ more) c = let r = in-same more c in ap (λ (b : Bool). list_any (same_tree c) (conjuncts_of e.cond) && b) r

selector-same : (es : List RegionEdge) (e : RegionEdge) → selector es e ≡ selector (on_conditions es) (edge_on e.cond)
selector-same es e = λ i. conjunction (filter (λ c. not (in-same es c i)) (conjuncts_of e.cond))

chosen-same : (all : List RegionEdge) (t : Tree) (es : List RegionEdge) (vs : List Tree) → chosen_from all t es vs ≡ chosen_by (map (selector (on_conditions all)) (on_conditions es)) t vs
chosen-same all t [] vs = refl
chosen-same all t (e ∷ es) [] = refl
chosen-same all t (e ∷ es) (v ∷ vs) =
    chosen-same all (make_choice (selector all e) t v) es vs
    ∙ ap (λ (s : Tree). chosen_by (map (selector (on_conditions all)) (on_conditions es)) (make_choice s t v) vs) (selector-same all e)

pub merged-by-conditions : MergedByConditions
merged-by-conditions e es v vs = ap Some (chosen-same (e ∷ es) v es vs)
