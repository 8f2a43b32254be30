-- What tells edges apart, and the values that are merged by it.
use Rattle.std.proofs.Common.{◌≡◌, ℕ, zero, suc, ◌<◌, List, [], ◌∷◌, ◌++◌, length, map, get_or, Bool, true, false, ◌&&◌, not, nat_lt, refl, ap, sym, ◌∙◌, subst, arith, ltb-true}
use Rattle.std.specs.List.{filter}
use Rattle.lh_unit.specs.Within.{Each}
use Rattle.lh_term.specs.Tree.{Tree}
use Rattle.lh_term.specs.Types.{type_of, IsTyped}
use Rattle.lh_term.specs.Make.{make_choice}
use Rattle.lh_term.specs.Arena.{trees, tree_at, trees_at, ids_below, IsIn, AreIn, StandsForTree, Grows}
use Rattle.lh_term.specs.Conjuncts.{conjuncts_of, conjunction}
use Rattle.lh_term.specs.declared.term.TermId.{TermId}
use Rattle.lh_term.specs.declared.term.TermNode.{TermNode}
use Rattle.lh_term.proofs.Swaps.{tree_grown, in_grown, stands_grown, grows_on}
use Rattle.lh_region_def.specs.Joins.{RegionEdge, in_each, selector}
use Rattle.lh_region_def.specs.Typed.{IsCondition, IsOfType}
use Rattle.lh_term.proofs.Conditions.{AllBits, filter-bits}
use Rattle.lh_region_def.proofs.MergedValues.{made-choice, bits-of, EachCondition}
use Rattle.lh_region_joins.specs.declared.edge.Edge.{Edge}
use Rattle.lh_region_joins.specs.declared.joins.Shared.{Shared}
use Rattle.lh_region_joins.specs.Joins.{IsConditionAt, AreConditions, edge_on, edges_on, IsShared, after_first, AreTerms, AreOthers, chosen_by, CanChoose, CanMerge}
use Rattle.lh_region_joins.proofs.Conditions.{condition-grown, grows-none}

pub conditions-at : (ns : List TermNode) (es : List Edge) (i : ℕ) (d : Edge) → AreConditions ns es → i < length es → IsConditionAt ns (get_or es i d).cond
conditions-at ns [] i d h l = absurd (omega arith)
conditions-at ns (e ∷ es) zero d h l = h.0
conditions-at ns (e ∷ es) (suc i) d h l = conditions-at ns es i d h.1 (omega arith)

pub conditions-later : (ns : List TermNode) (es : List Edge) → AreConditions ns es → AreConditions ns (after_first es)
conditions-later ns [] h = tt
conditions-later ns (e ∷ es) h = h.1

pub edges-later : (ns : List TermNode) (es : List Edge) → edges_on ns (after_first es) ≡ after_first (edges_on ns es)
edges-later ns [] = refl
edges-later ns (e ∷ es) = refl

-- ---- the conjuncts of each edge that not all have

pub record EachSoFar (ns : List TermNode) (s : Shared) (seen : List Edge) (lists : List (List TermId)) : Type 0 where
  pub each : (es : List Edge) → IsShared ns es s → AreOthers ns (edges_on ns es) (edges_on ns seen) lists

others-push : (ns : List TermNode) (all xs : List RegionEdge) (lists : List (List TermId)) (e : RegionEdge) (ts : List TermId) → AreOthers ns all xs lists → AreIn ns ts
    → trees_at ns ts ≡ filter (λ (c : Tree). not (in_each all c)) (conjuncts_of e.cond) → AreOthers ns all (xs ++ e ∷ []) (lists ++ ts ∷ [])
others-push ns all [] [] e ts h i k = (i, k, tt)
others-push ns all [] (l ∷ ls) e ts h i k = absurd h
others-push ns all (x ∷ xs) [] e ts h i k = absurd h
others-push ns all (x ∷ xs) (l ∷ ls) e ts h i k = (h.0, h.1, others-push ns all xs ls e ts h.2 i k)

edges-push : (ns : List TermNode) (es : List Edge) (e : Edge) → edges_on ns (es ++ e ∷ []) ≡ edges_on ns es ++ edge_on (tree_at (trees ns) e.cond) ∷ []
edges-push ns [] e = refl
edges-push ns (x ∷ es) e = ap (λ (ys : List RegionEdge). edge_on (tree_at (trees ns) x.cond) ∷ ys) (edges-push ns es e)

pub EachSoFar-none : (ns : List TermNode) (s : Shared) → EachSoFar ns s [] []
EachSoFar-none ns s = record { each = λ es h. tt }

pub EachSoFar-next : (ns : List TermNode) (s : Shared) (seen after : List Edge) (lists more : List (List TermId)) (e : Edge) (ts : List TermId) → after ≡ seen ++ e ∷ [] → more ≡ lists ++ ts ∷ []
    → AreIn ns ts → ((es : List Edge) → IsShared ns es s → trees_at ns ts ≡ filter (λ (c : Tree). not (in_each (edges_on ns es) c)) (conjuncts_of (tree_at (trees ns) e.cond)))
    → EachSoFar ns s seen lists → EachSoFar ns s after more
EachSoFar-next ns s seen after lists more e ts p q i k h = record {
  each = λ es f.
      subst (λ (x : List Edge). AreOthers ns (edges_on ns es) (edges_on ns x) more) (sym p)
      (subst (λ (x : List RegionEdge). AreOthers ns (edges_on ns es) x more) (sym (edges-push ns seen e))
      (subst (AreOthers ns (edges_on ns es) (edges_on ns seen ++ edge_on (tree_at (trees ns) e.cond) ∷ [])) (sym q)
      (others-push ns (edges_on ns es) (edges_on ns seen) lists (edge_on (tree_at (trees ns) e.cond)) ts (h.each es f) i (k es f))));
}

-- ---- values that are merged

pub record MergeSoFar (old now : List TermNode) (first merged : TermId) (ss vs all_ss all_vs : List TermId) : Type 0 where
  pub grows : Grows old now
  pub merged_in : IsIn now merged
  pub merged_is : IsOfType (type_of (tree_at (trees old) first)) (tree_at (trees now) merged)
  pub long : length ss ≡ length vs
  pub conds : Each (IsConditionAt old) ss
  pub alike : Each (λ (v : TermId). IsIn old v × IsTyped (tree_at (trees old) v) × (type_of (tree_at (trees old) first) ≡ type_of (tree_at (trees old) v))) vs
  pub so_far : chosen_by (trees_at old ss) (tree_at (trees now) merged) (trees_at old vs) ≡ chosen_by (trees_at old all_ss) (tree_at (trees old) first) (trees_at old all_vs)

pub MergeSoFar-none : (ns : List TermNode) (first : TermId) (ss vs : List TermId) → CanMerge ns ss first vs → MergeSoFar ns ns first first ss vs ss vs
MergeSoFar-none ns first ss vs c = record {
  grows = grows-none ns;
  merged_in = c.first_in;
  merged_is = record { typed = c.typed; type = refl };
  long = c.long;
  conds = c.conds;
  alike = c.alike;
  so_far = refl;
}

pub MergeSoFar-can : (old now : List TermNode) (first merged : TermId) (ss vs all_ss all_vs : List TermId) (s v : TermId) (ms mv : List TermId) → ss ≡ s ∷ ms → vs ≡ v ∷ mv
    → MergeSoFar old now first merged ss vs all_ss all_vs → CanChoose now s merged v
MergeSoFar-can old now first merged ss vs all_ss all_vs s v ms mv p q h =
    let c = (subst (Each (IsConditionAt old)) p h.conds).0 in
    let a = (subst (Each (λ (x : TermId). IsIn old x × IsTyped (tree_at (trees old) x) × (type_of (tree_at (trees old) first) ≡ type_of (tree_at (trees old) x)))) q h.alike).0 in
    let same : tree_at (trees now) v ≡ tree_at (trees old) v = tree_grown old now h.grows v a.0 in
    record {
      selector = condition-grown old now s h.grows c;
      first_in = h.merged_in;
      second_in = in_grown old now h.grows v a.0;
      typed = (h.merged_is.typed, subst IsTyped (sym same) a.1);
      alike = h.merged_is.type ∙ a.2 ∙ ap type_of (sym same);
    }

pub MergeSoFar-next : (old now new : List TermNode) (first merged next : TermId) (ss vs all_ss all_vs : List TermId) (s v : TermId) (ms mv : List TermId) → ss ≡ s ∷ ms → vs ≡ v ∷ mv → Grows now new
    → StandsForTree new next (make_choice (tree_at (trees now) s) (tree_at (trees now) merged) (tree_at (trees now) v)) → MergeSoFar old now first merged ss vs all_ss all_vs
    → MergeSoFar old new first next ms mv all_ss all_vs
MergeSoFar-next old now new first merged next ss vs all_ss all_vs s v ms mv p q g m h =
    let c = subst (Each (IsConditionAt old)) p h.conds in
    let a = subst (Each (λ (x : TermId). IsIn old x × IsTyped (tree_at (trees old) x) × (type_of (tree_at (trees old) first) ≡ type_of (tree_at (trees old) x)))) q h.alike in
    let same_v : tree_at (trees now) v ≡ tree_at (trees old) v = tree_grown old now h.grows v a.0.0 in
    let same_s : tree_at (trees now) s ≡ tree_at (trees old) s = tree_grown old now h.grows s c.0.is_in in
    let ty = type_of (tree_at (trees old) first) in
    let made = made-choice (tree_at (trees now) s) (tree_at (trees now) merged) (tree_at (trees now) v) ty (condition-grown old now s h.grows c.0).cond h.merged_is
    (record { typed = subst IsTyped (sym same_v) a.0.1; type = ap type_of same_v ∙ sym a.0.2 }) in
    record {
      grows = grows_on old now new h.grows g;
      merged_in = m.is_in;
      merged_is = subst (IsOfType ty) (sym m.tree) made;
      long = one-less (ap length (sym p) ∙ h.long ∙ ap length q);
      conds = c.1;
      alike = a.1;
      so_far =
          ap (λ (x : Tree). chosen_by (trees_at old ms) x (trees_at old mv)) (m.tree ∙ (λ i. make_choice (same_s i) (tree_at (trees now) merged) (same_v i)))
          ∙ (λ i. chosen_by (trees_at old (sym p i)) (tree_at (trees now) merged) (trees_at old (sym q i)))
          ∙ h.so_far;
    }
  where
    one-less : suc (length ms) ≡ suc (length mv) → length ms ≡ length mv
    one-less e = omega arith

pub MergeSoFar-end : (old now : List TermNode) (first merged : TermId) (ss vs all_ss all_vs : List TermId) → ss ≡ [] → MergeSoFar old now first merged ss vs all_ss all_vs
    → StandsForTree now merged (chosen_by (trees_at old all_ss) (tree_at (trees old) first) (trees_at old all_vs))
MergeSoFar-end old now first merged ss vs all_ss all_vs p h = record
    { is_in = h.merged_in; tree = ap (λ (x : List TermId). chosen_by (trees_at old x) (tree_at (trees now) merged) (trees_at old vs)) (sym p) ∙ h.so_far }

-- ---- selectors

pub terms-grown : (old new : List TermNode) (ts : List TermId) (xs : List Tree) → Grows old new → AreTerms old ts xs → AreTerms new ts xs
terms-grown old new [] [] g h = tt
terms-grown old new [] (x ∷ xs) g h = h
terms-grown old new (t ∷ ts) [] g h = h
terms-grown old new (t ∷ ts) (x ∷ xs) g h = (stands_grown old new g t x h.0, terms-grown old new ts xs g h.1)

pub terms-push : (ns : List TermNode) (ts : List TermId) (xs : List Tree) (t : TermId) (x : Tree) → AreTerms ns ts xs → StandsForTree ns t x → AreTerms ns (ts ++ t ∷ []) (xs ++ x ∷ [])
terms-push ns [] [] t x h s = (s, tt)
terms-push ns [] (y ∷ xs) t x h s = absurd h
terms-push ns (u ∷ ts) [] t x h s = absurd h
terms-push ns (u ∷ ts) (y ∷ xs) t x h s = (h.0, terms-push ns ts xs t x h.1 s)

pub trees-grown : (old new : List TermNode) (ts : List TermId) → Grows old new → AreIn old ts → trees_at new ts ≡ trees_at old ts
trees-grown old new [] g i = refl
trees-grown old new (t ∷ ts) g i =
    let p = both-of (nat_lt t.0 (length old)) (ids_below (length old) ts) i in
    let a = tree_grown old new g t (ltb-true t.0 (length old) p.0) in
    let b = trees-grown old new ts g p.1 in
    λ k. a k ∷ b k
  where
    both-of : (a b : Bool) → a && b ≡ true → (a ≡ true) × (b ≡ true)
    both-of true b e = (refl, e)
    both-of false b e = cc

each-cond : (ns : List TermNode) (es : List Edge) → AreConditions ns es → EachCondition (edges_on ns es)
each-cond ns [] h = tt
each-cond ns (e ∷ es) h = (h.0.cond, each-cond ns es h.1)

later-cond : (es : List RegionEdge) → EachCondition es → EachCondition (after_first es)
later-cond [] h = tt
later-cond (e ∷ es) h = h.1

pub record SelectorsSoFar (old now : List TermNode) (all : List RegionEdge) (ids : List TermId) (rest : List (List TermId)) : Type 0 where
  pub grows : Grows old now
  pub done : List RegionEdge
  pub left : List RegionEdge
  pub parts : after_first all ≡ done ++ left
  pub made : AreTerms now ids (map (selector all) done)
  pub others : AreOthers old all left rest
  pub conds : EachCondition left

pub SelectorsSoFar-none : (ns : List TermNode) (es : List Edge) (rest : List (List TermId)) → AreConditions ns es → AreOthers ns (edges_on ns es) (after_first (edges_on ns es)) rest
    → SelectorsSoFar ns ns (edges_on ns es) [] rest
SelectorsSoFar-none ns es rest c o = record {
  grows = grows-none ns;
  done = [];
  left = after_first (edges_on ns es);
  parts = refl;
  made = tt;
  others = o;
  conds = later-cond (edges_on ns es) (each-cond ns es c);
}

pub bits-conditions : (ns : List TermNode) (ts : List TermId) → AreIn ns ts → AllBits (trees_at ns ts) → Each (IsConditionAt ns) ts
bits-conditions ns [] i b = tt
bits-conditions ns (t ∷ ts) i b =
    let p = both-of (nat_lt t.0 (length ns)) (ids_below (length ns) ts) i in
    (record { is_in = ltb-true t.0 (length ns) p.0; cond = record { typed = b.0.typed; type = b.0.type } }, bits-conditions ns ts p.1 b.1)
  where
    both-of : (a b : Bool) → a && b ≡ true → (a ≡ true) × (b ≡ true)
    both-of true b e = (refl, e)
    both-of false b e = cc

each-grown : (old new : List TermNode) (ts : List TermId) → Grows old new → Each (IsConditionAt old) ts → Each (IsConditionAt new) ts
each-grown old new [] g h = tt
each-grown old new (t ∷ ts) g h = (condition-grown old new t g h.0, each-grown old new ts g h.1)

-- the next edge, with its conjuncts
record NextOthers (old : List TermNode) (all left : List RegionEdge) (conds : List TermId) (more : List (List TermId)) : Type 0 where
  edge : RegionEdge
  edges : List RegionEdge
  parts : left ≡ edge ∷ edges
  within : AreIn old conds
  trees : trees_at old conds ≡ filter (λ (c : Tree). not (in_each all c)) (conjuncts_of edge.cond)
  others : AreOthers old all edges more
  cond : IsCondition edge.cond
  each_cond : EachCondition edges

next-others : (old : List TermNode) (all left : List RegionEdge) (rest : List (List TermId)) (conds : List TermId) (more : List (List TermId)) → rest ≡ conds ∷ more → AreOthers old all left rest
    → EachCondition left → NextOthers old all left conds more
next-others old all [] rest conds more e o c = absurd (subst (AreOthers old all []) e o)
next-others old all (x ∷ xs) rest conds more e o c =
    let p = subst (AreOthers old all (x ∷ xs)) e o in
    record { edge = x; edges = xs; parts = refl; within = p.0; trees = p.1; others = p.2; cond = c.0; each_cond = c.1 }

pub SelectorsSoFar-conds : (old now : List TermNode) (all : List RegionEdge) (ids : List TermId) (rest : List (List TermId)) (conds : List TermId) (more : List (List TermId)) → rest ≡ conds ∷ more
    → SelectorsSoFar old now all ids rest → Each (IsConditionAt now) conds
SelectorsSoFar-conds old now all ids rest conds more e s =
    let n = next-others old all s.left rest conds more e s.others s.conds in
    each-grown old now conds s.grows (bits-conditions old conds n.within
    (subst AllBits (sym n.trees) (filter-bits (λ (c : Tree). not (in_each all c)) (conjuncts_of n.edge.cond) (bits-of n.edge.cond n.cond))))

append-one : (xs : List RegionEdge) (y : RegionEdge) (ys : List RegionEdge) → xs ++ y ∷ ys ≡ (xs ++ y ∷ []) ++ ys
append-one [] y ys = refl
append-one (x ∷ xs) y ys = ap (λ (zs : List RegionEdge). x ∷ zs) (append-one xs y ys)

map-one : (f : RegionEdge → Tree) (xs : List RegionEdge) (y : RegionEdge) → map f (xs ++ y ∷ []) ≡ map f xs ++ f y ∷ []
map-one f [] y = refl
map-one f (x ∷ xs) y = ap (λ (zs : List Tree). f x ∷ zs) (map-one f xs y)

pub SelectorsSoFar-next : (old now new : List TermNode) (all : List RegionEdge) (ids longer : List TermId) (rest : List (List TermId)) (conds : List TermId) (more : List (List TermId)) (t : TermId)
    → rest ≡ conds ∷ more → longer ≡ ids ++ t ∷ [] → Grows now new → StandsForTree new t (conjunction (trees_at now conds)) → SelectorsSoFar old now all ids rest
    → SelectorsSoFar old new all longer more
SelectorsSoFar-next old now new all ids longer rest conds more t e q g m s =
    let n = next-others old all s.left rest conds more e s.others s.conds in
    let same : conjunction (trees_at now conds) ≡ selector all n.edge = ap conjunction (trees-grown old now conds s.grows n.within ∙ n.trees) in
    record {
      grows = grows_on old now new s.grows g;
      done = s.done ++ n.edge ∷ [];
      left = n.edges;
      parts = s.parts ∙ ap (λ (x : List RegionEdge). s.done ++ x) n.parts ∙ append-one s.done n.edge n.edges;
      made =
          subst (λ (x : List Tree). AreTerms new longer x) (sym (map-one (selector all) s.done n.edge))
          (subst (λ (x : List TermId). AreTerms new x (map (selector all) s.done ++ selector all n.edge ∷ [])) (sym q)
          (terms-push new ids (map (selector all) s.done) t (selector all n.edge) (terms-grown now new ids (map (selector all) s.done) g s.made) (subst (StandsForTree new t) same m)));
      others = n.others;
      conds = n.each_cond;
    }

pub SelectorsSoFar-end : (old now : List TermNode) (all : List RegionEdge) (ids : List TermId) (rest : List (List TermId)) → rest ≡ [] → SelectorsSoFar old now all ids rest
    → AreTerms now ids (map (selector all) (after_first all))
SelectorsSoFar-end old now all ids rest e s = subst (λ (x : List RegionEdge). AreTerms now ids (map (selector all) x))
    (sym (s.parts ∙ ap (λ (x : List RegionEdge). s.done ++ x) (none s.left (subst (AreOthers old all s.left) e s.others)) ∙ nil s.done)) s.made
  where
    none : (left : List RegionEdge) → AreOthers old all left [] → left ≡ []
    none [] o = refl
    none (x ∷ xs) o = absurd o

    nil : (xs : List RegionEdge) → xs ++ [] ≡ xs
    nil [] = refl
    nil (x ∷ xs) = ap (λ (ys : List RegionEdge). x ∷ ys) (nil xs)
