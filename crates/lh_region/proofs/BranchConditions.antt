-- Conditions at places, as terms are made of them.
use Rattle.std.proofs.Common.{◌≡◌, ℕ, List, [], ◌∷◌, Some, refl, ap, sym, ◌∙◌, subst}
use Rattle.std.specs.Option.{is_some}
use Rattle.lh_types.specs.Types.{TypeTree, int_type, IsData}
use Rattle.lh_types.specs.declared.op.Op.TheVariants.{Not}
use Rattle.lh_term.specs.Tree.{Tree}
use Rattle.lh_term.specs.Types.{type_of, TakesTypes}
use Rattle.lh_term.specs.Arena.{trees, tree_at, StandsForTree, Grows}
use Rattle.lh_term.specs.declared.term.TermId.{TermId}
use Rattle.lh_term.specs.declared.term.TermNode.{TermNode}
use Rattle.lh_term.proofs.Sound.{one_wide}
use Rattle.lh_term.proofs.Swaps.{tree_grown, stands_grown}
use Rattle.lh_region_def.specs.Typed.{IsCondition}
use Rattle.lh_region_def.specs.Places.{both}
use Rattle.lh_region_def.proofs.MergedValues.{not-condition}
use Rattle.lh_region_joins.specs.Joins.{IsConditionAt}
use Rattle.lh_region_joins.proofs.Conditions.{stands-condition}
use Rattle.lh_region_places.specs.declared.state.PlaceState.{PlaceState}
use Rattle.lh_region_places.specs.Asked.{KnownTerms, Tells, CanAsk, StillTold, IsTold}
use Rattle.lh_region.specs.Branches.{CanTest, negation, IsAnd, IsAndNot}
use Rattle.lh_region_places.proofs.ToldValues.{tells-grown}

pub takes-not : (x : Tree) → IsCondition x → TakesTypes Not (type_of x ∷ [])
takes-not x i =
    let P : TypeTree → Type 0 = IsData in
    let e = i.type in
    record { gives = int_type 1; data_types = (subst P (sym e) one_wide, tt); row = (1, (λ k. e k ∷ []), refl); is_data = one_wide }

pub test-asked : (ns : List TermNode) (ps : List PlaceState) (v i : ℕ) → CanTest ns ps v i → CanAsk ns ps v i
test-asked ns ps v i c = record { told = c.told; tells = c.tells; there = ap is_some c.is }

-- what is told of the value is what its term stands for
told-tree : (ns ms : List TermNode) (ps : List PlaceState) (v i : ℕ) (t : TermId) → IsTold ns ps ms v i t → (told : KnownTerms) (x : Tree) → Tells ns ps told → told i v ≡ Some x → tree_at (trees ms) t ≡ x
told-tree ns ms ps v i t h told x u e =
    let (y, f, s) = h told u (ap is_some e) in
    let g : Some y ≡ Some x = sym f ∙ e in
    let z : y ≡ x = cc in
    s.tree ∙ z

pub test-condition : (ns ms : List TermNode) (ps : List PlaceState) (v i : ℕ) (t : TermId) → CanTest ns ps v i → IsTold ns ps ms v i t → IsConditionAt ms t
test-condition ns ms ps v i t c h =
    let (y, f, s) = h c.told c.tells (ap is_some c.is) in
    let g : Some y ≡ Some c.cond = sym f ∙ c.is in
    let z : y ≡ c.cond = cc in
    stands-condition ms t c.cond (subst (StandsForTree ms t) z s) c.condition

pub still-grown : (ns ms os : List TermNode) (ps qs : List PlaceState) (v i : ℕ) → Grows ms os → StillTold ns ps ms qs v i → StillTold ns ps os qs v i
still-grown ns ms os ps qs v i g s told u h = tells-grown ms os qs told g (s told u h)

pub not-made : (ms os : List TermNode) (t r : TermId) → IsConditionAt ms t → StandsForTree os r (negation (tree_at (trees ms) t)) → IsConditionAt os r
not-made ms os t r c s = stands-condition os r (negation (tree_at (trees ms) t)) s (not-condition (tree_at (trees ms) t) c.cond)

-- the term of both conditions, once terms were made after the first one and the value
pub and-made : (ns ms ls os : List TermNode) (ps : List PlaceState) (v i : ℕ) (cond t r : TermId) → Grows ns ls → Grows ms ls → IsConditionAt ns cond → IsConditionAt ms t → IsTold ns ps ms v i t
    → StandsForTree os r (both (tree_at (trees ls) cond) (tree_at (trees ls) t)) → IsAnd ns ps os v i (tree_at (trees ns) cond) r
and-made ns ms ls os ps v i cond t r g h c d k s told x u e =
    let a = tree_grown ns ls g cond c.is_in in
    let b : tree_at (trees ls) t ≡ x = tree_grown ms ls h t d.is_in ∙ told-tree ns ms ps v i t k told x u e in
    subst (StandsForTree os r) (λ j. both (a j) (b j)) s

pub and-not-made : (ns ms ls os : List TermNode) (ps : List PlaceState) (v i : ℕ) (cond t o r : TermId) → Grows ns ls → IsConditionAt ns cond → IsTold ns ps ms v i t
    → StandsForTree ls o (negation (tree_at (trees ms) t)) → StandsForTree os r (both (tree_at (trees ls) cond) (tree_at (trees ls) o)) → IsAndNot ns ps os v i (tree_at (trees ns) cond) r
and-not-made ns ms ls os ps v i cond t o r g c k n s told x u e =
    let a = tree_grown ns ls g cond c.is_in in
    let b : tree_at (trees ls) o ≡ negation x = n.tree ∙ ap negation (told-tree ns ms ps v i t k told x u e) in
    subst (StandsForTree os r) (λ j. both (a j) (b j)) s

pub is-grown : (ns ls os : List TermNode) (ps : List PlaceState) (v i : ℕ) (c : Tree) (r : TermId) → Grows ls os → IsAndNot ns ps ls v i c r → IsAndNot ns ps os v i c r
is-grown ns ls os ps v i c r g h told x u e = stands_grown ls os g r (both c (negation x)) (h told x u e)
