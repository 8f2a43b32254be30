-- Where edges join: the loops over them.
use Rattle.std.proofs.Common.{◌≡◌, ℕ, zero, suc, ◌+◌, ◌<◌, ◌≤◌, List, [], ◌∷◌, ◌++◌, length, get_or, Bool, true, false, ◌&&◌, ◌||◌, not, nat_eq, nat_lt, if◌then◌else◌, refl, ap, sym, ◌∙◌, subst, arith, ltb-true, lt-ltb}
use Rattle.std.specs.List.{list_any, filter}
use Rattle.std.proofs.lemmas.List.{length_push}
use Rattle.std.proofs.lemmas.List.Elements.{filter-append}
use Rattle.lh_unit.proofs.Lists.{Same, same, other, same_or, nat_eq-refl, nat_eq-other}
use Rattle.lh_types.specs.declared.op.Op.TheVariants.{Or, And}
use Rattle.lh_unit.specs.Within.{Each}
use Rattle.lh_term.specs.Tree.{Tree}
use Rattle.lh_term.specs.Make.{bit_of, make_operation}
use Rattle.lh_term.specs.Arena.{trees, tree_at, trees_at, ids_below, IsIn, AreIn, OneId, StandsForTree, Grows}
use Rattle.lh_term.specs.Conjuncts.{conjuncts_of, conjunction_from, conjunction}
use Rattle.lh_term.specs.SameTree.{same_tree, same_tree-is, same_tree-refl}
use Rattle.lh_term.specs.declared.term.TermId.{TermId}
use Rattle.lh_term.specs.declared.term.TermNode.{TermNode}
use Rattle.lh_term.proofs.Swaps.{tree_grown, grows_on}
use Rattle.lh_region_def.specs.Joins.{or_any, any_taken, in_each}
use Rattle.lh_region_def.proofs.MergedValues.{bit-condition, or-condition, and-condition}
use Rattle.lh_region_joins.specs.declared.edge.Edge.{Edge}
use Rattle.lh_region_joins.specs.Joins.{IsConditionAt, AreConditions, edges_on, count_of, is_listed, raised, IsShared}
use Rattle.lh_region_joins.specs.declared.joins.Shared.{Shared}
use Rattle.lh_region_joins.proofs.Conditions.{condition-grown, stands-condition}

abbrev pub no_edge : Edge
no_edge = record { from = 0; block = 0; cond = record { 0 = 0 } }

-- some of the edges before these is taken where `any` is 1
pub record AnySoFar (old now : List TermNode) (any : TermId) (rest all : List Edge) : Type 0 where
  pub grows : Grows old now
  pub any_is : IsConditionAt now any
  pub conds : AreConditions old rest
  pub so_far : or_any (tree_at (trees now) any) (edges_on old rest) ≡ any_taken (edges_on old all)

pub AnySoFar-none : (old now : List TermNode) (any : TermId) (all : List Edge) → Grows old now → StandsForTree now any (bit_of false) → AreConditions old all → AnySoFar old now any all all
AnySoFar-none old now any all g s c = record {
  grows = g;
  any_is = stands-condition now any (bit_of false) s (bit-condition false);
  conds = c;
  so_far = ap (λ (x : Tree). or_any x (edges_on old all)) s.tree;
}

pub AnySoFar-first : (old now : List TermNode) (any : TermId) (rest all : List Edge) (e : Edge) (more : List Edge) → rest ≡ e ∷ more → AnySoFar old now any rest all → IsConditionAt now e.cond
AnySoFar-first old now any rest all e more p s = condition-grown old now e.cond s.grows (subst (AreConditions old) p s.conds).0

pub AnySoFar-next : (old now new : List TermNode) (any next : TermId) (rest all : List Edge) (e : Edge) (more : List Edge) → rest ≡ e ∷ more → Grows now new
    → StandsForTree new next (make_operation Or (tree_at (trees now) any ∷ tree_at (trees now) e.cond ∷ [])) → AnySoFar old now any rest all → AnySoFar old new next more all
AnySoFar-next old now new any next rest all e more p g m s =
    let c = subst (AreConditions old) p s.conds in
    let same : tree_at (trees now) e.cond ≡ tree_at (trees old) e.cond = tree_grown old now s.grows e.cond c.0.is_in in
    record {
      grows = grows_on old now new s.grows g;
      any_is = stands-condition new next _ m (or-condition _ _ s.any_is.cond (condition-grown old now e.cond s.grows c.0).cond);
      conds = c.1;
      so_far =
          ap (λ (x : Tree). or_any x (edges_on old more)) (m.tree ∙ ap (λ (x : Tree). make_operation Or (tree_at (trees now) any ∷ x ∷ [])) same)
          ∙ ap (λ (es : List Edge). or_any (tree_at (trees now) any) (edges_on old es)) (sym p)
          ∙ s.so_far;
    }

-- ---- conjunctions

abbrev pub no_id : TermId
no_id = record { 0 = 0 }

-- the conditions before these all hold where `all` is 1
pub record AllSoFar (old now : List TermNode) (all : TermId) (rest conds : List TermId) : Type 0 where
  pub grows : Grows old now
  pub all_is : IsConditionAt now all
  pub each : Each (IsConditionAt old) rest
  pub so_far : conjunction_from (tree_at (trees now) all) (trees_at old rest) ≡ conjunction (trees_at old conds)

pub AllSoFar-none : (old now : List TermNode) (all : TermId) (conds : List TermId) → Grows old now → StandsForTree now all (bit_of true) → Each (IsConditionAt old) conds → AllSoFar old now all conds conds
AllSoFar-none old now all conds g s c = record {
  grows = g;
  all_is = stands-condition now all (bit_of true) s (bit-condition true);
  each = c;
  so_far = ap (λ (x : Tree). conjunction_from x (trees_at old conds)) s.tree;
}

pub AllSoFar-first : (old now : List TermNode) (all : TermId) (rest conds : List TermId) (t : TermId) (more : List TermId) → rest ≡ t ∷ more → AllSoFar old now all rest conds → IsConditionAt now t
AllSoFar-first old now all rest conds t more p s = condition-grown old now t s.grows (subst (Each (IsConditionAt old)) p s.each).0

pub AllSoFar-next : (old now new : List TermNode) (all next : TermId) (rest conds : List TermId) (t : TermId) (more : List TermId) → rest ≡ t ∷ more → Grows now new
    → StandsForTree new next (make_operation And (tree_at (trees now) all ∷ tree_at (trees now) t ∷ [])) → AllSoFar old now all rest conds → AllSoFar old new next more conds
AllSoFar-next old now new all next rest conds t more p g m s =
    let c = subst (Each (IsConditionAt old)) p s.each in
    let same : tree_at (trees now) t ≡ tree_at (trees old) t = tree_grown old now s.grows t c.0.is_in in
    record {
      grows = grows_on old now new s.grows g;
      all_is = stands-condition new next _ m (and-condition _ _ s.all_is.cond (condition-grown old now t s.grows c.0).cond);
      each = c.1;
      so_far =
          ap (λ (x : Tree). conjunction_from x (trees_at old more)) (m.tree ∙ ap (λ (x : Tree). make_operation And (tree_at (trees now) all ∷ x ∷ [])) same)
          ∙ ap (λ (ts : List TermId). conjunction_from (tree_at (trees now) all) (trees_at old ts)) (sym p)
          ∙ s.so_far;
    }

-- ---- conjuncts that all edges have

raised-all : (n k : ℕ) (b : Bool) → k ≤ n → nat_eq (raised n b k) (n + 1) ≡ nat_eq k n && b
raised-all n k b l = by (same_or k n) b
  where
    and-no : (x : Bool) → x && false ≡ false
    and-no true = refl
    and-no false = refl

    and-false : (x : Bool) (i j : ℕ) → nat_eq (if x && false then j else i) j ≡ nat_eq i j
    and-false true i j = refl
    and-false false i j = refl

    by : Same k n → (b : Bool) → nat_eq (raised n b k) (n + 1) ≡ nat_eq k n && b
    by (same e) true = ap (λ (x : Bool). nat_eq (if x && true then n + 1 else k) (n + 1)) (yes e) ∙ nat_eq-refl (n + 1) ∙ ap (λ (x : Bool). x && true) (sym (yes e))
      where
        yes : k ≡ n → nat_eq k n ≡ true
        yes f = subst (λ (m : ℕ). nat_eq k m ≡ true) f (nat_eq-refl k)
    by (same e) false = and-false (nat_eq k n) k (n + 1) ∙ nat_eq-other k (n + 1) (λ f. absurd (omega arith)) ∙ sym (and-no (nat_eq k n))
    by (other m) b = ap (λ (x : Bool). nat_eq (if x && b then n + 1 else k) (n + 1)) (nat_eq-other k n m) ∙ nat_eq-other k (n + 1) (λ f. absurd (omega arith))
        ∙ ap (λ (x : Bool). x && b) (sym (nat_eq-other k n m))

-- two terms of an arena are one where their numbers are
same-id : (ns : List TermNode) (c t : TermId) → OneId ns → IsIn ns c → IsIn ns t → nat_eq c.0 t.0 ≡ same_tree (tree_at (trees ns) t) (tree_at (trees ns) c)
same-id ns c t o i j = by (same_or c.0 t.0)
  where
    by : Same c.0 t.0 → nat_eq c.0 t.0 ≡ same_tree (tree_at (trees ns) t) (tree_at (trees ns) c)
    by (same e) =
        let k : c ≡ t = ap (λ (x : ℕ). let y : TermId = record { 0 = x } in y) e in
        subst (λ (x : TermId). nat_eq c.0 x.0 ≡ same_tree (tree_at (trees ns) x) (tree_at (trees ns) c)) k (nat_eq-refl c.0 ∙ sym (same_tree-refl (tree_at (trees ns) c)))
    by (other n) = nat_eq-other c.0 t.0 n ∙ sym (apart (same_tree (tree_at (trees ns) t) (tree_at (trees ns) c)) refl)
      where
        apart : (b : Bool) → same_tree (tree_at (trees ns) t) (tree_at (trees ns) c) ≡ b → b ≡ false
        apart false f = refl
        apart true f = let k : t ≡ c = o t c j i (same_tree-is (tree_at (trees ns) t) (tree_at (trees ns) c) f) in absurd (n (ap (λ (x : TermId). x.0) (sym k)))

listed-same : (ns : List TermNode) (ts : List TermId) (t : TermId) → OneId ns → AreIn ns ts → IsIn ns t → is_listed ts t.0 ≡ list_any (same_tree (tree_at (trees ns) t)) (trees_at ns ts)
listed-same ns [] t o i j = refl
listed-same ns (c ∷ ts) t o i j =
    let p = both-of (nat_lt c.0 (length ns)) (ids_below (length ns) ts) i in
    let a = same-id ns c t o (ltb-true c.0 (length ns) p.0) j in
    let b = listed-same ns ts t o p.1 j in
    λ k. a k || b k
  where
    both-of : (a b : Bool) → a && b ≡ true → (a ≡ true) × (b ≡ true)
    both-of true b e = (refl, e)
    both-of false b e = cc

pub Shared-none : (ns : List TermNode) (s : Shared) → s.edges ≡ 0 → ((q : ℕ) → count_of s.counts q ≡ 0) → IsShared ns [] s
Shared-none ns s e c = record { edges = e; below = λ q. omega (arith, c q); counts = λ t i. ap (λ (k : ℕ). nat_eq k 0) (c t.0) }

pub Shared-next : (ns : List TermNode) (before : List Edge) (e : Edge) (s new : Shared) (ts : List TermId) → OneId ns → AreIn ns ts → trees_at ns ts ≡ conjuncts_of (tree_at (trees ns) e.cond)
    → new.edges ≡ s.edges + 1 → ((q : ℕ) → count_of new.counts q ≡ raised s.edges (is_listed ts q) (count_of s.counts q)) → IsShared ns before s → IsShared ns (before ++ e ∷ []) new
Shared-next ns before e s new ts o i c p q h = record {
  edges = p ∙ ap (λ (n : ℕ). n + 1) h.edges ∙ sym (length_push before e);
  below = λ x. at-most x;
  counts = λ t j.
      ap (λ (n : ℕ). nat_eq n (length (before ++ e ∷ []))) (q t.0 ∙ ap (λ (n : ℕ). raised n (is_listed ts t.0) (count_of s.counts t.0)) h.edges)
      ∙ ap (nat_eq (raised (length before) (is_listed ts t.0) (count_of s.counts t.0))) (length_push before e)
      ∙ raised-all (length before) (count_of s.counts t.0) (is_listed ts t.0) (h.below t.0)
      ∙ (λ k. h.counts t j k && has t j k)
      ∙ sym (each-push before t);
}
  where
    has : (t : TermId) → IsIn ns t → is_listed ts t.0 ≡ list_any (same_tree (tree_at (trees ns) t)) (conjuncts_of (tree_at (trees ns) e.cond))
    has t j = listed-same ns ts t o i j ∙ ap (list_any (same_tree (tree_at (trees ns) t))) c

    raised-below : (n k : ℕ) (b : Bool) → k ≤ n → raised n b k ≤ n + 1
    raised-below n k b l = pick (nat_eq k n && b)
      where
        pick : (x : Bool) → (if x then n + 1 else k) ≤ n + 1
        pick true = omega arith
        pick false = omega arith

    at-most : (x : ℕ) → count_of new.counts x ≤ length (before ++ e ∷ [])
    at-most x = omega (arith, q x, raised-below s.edges (count_of s.counts x) (is_listed ts x) (omega (arith, h.below x, h.edges)), length_push before e, h.edges)

    each-push : (es : List Edge) (t : TermId) → in_each (edges_on ns (es ++ e ∷ [])) (tree_at (trees ns) t) ≡ in_each (edges_on ns es) (tree_at (trees ns) t)
        && list_any (same_tree (tree_at (trees ns) t)) (conjuncts_of (tree_at (trees ns) e.cond))
    each-push [] t = and-true (list_any (same_tree (tree_at (trees ns) t)) (conjuncts_of (tree_at (trees ns) e.cond)))
      where
        and-true : (b : Bool) → b && true ≡ b
        and-true true = refl
        and-true false = refl
    each-push (x ∷ es) t = ap (λ (b : Bool). list_any (same_tree (tree_at (trees ns) t)) (conjuncts_of (tree_at (trees ns) x.cond)) && b) (each-push es t)
        ∙ and-all (list_any (same_tree (tree_at (trees ns) t)) (conjuncts_of (tree_at (trees ns) x.cond))) (in_each (edges_on ns es) (tree_at (trees ns) t)) (list_any
        (same_tree (tree_at (trees ns) t)) (conjuncts_of (tree_at (trees ns) e.cond)))
      where
        and-all : (a b c : Bool) → a && (b && c) ≡ (a && b) && c
        and-all true b c = refl
        and-all false b c = refl

-- ---- the conjuncts that not all edges have

pub record OthersSoFar (ns : List TermNode) (s : Shared) (others seen : List TermId) : Type 0 where
  pub within : AreIn ns others
  pub kept : (es : List Edge) → IsShared ns es s → trees_at ns others ≡ filter (λ (c : Tree). not (in_each (edges_on ns es) c)) (trees_at ns seen)

trees-push : (ns : List TermNode) (ts : List TermId) (c : TermId) → trees_at ns (ts ++ c ∷ []) ≡ trees_at ns ts ++ tree_at (trees ns) c ∷ []
trees-push ns [] c = refl
trees-push ns (t ∷ ts) c = ap (λ (x : List Tree). tree_at (trees ns) t ∷ x) (trees-push ns ts c)

in-push : (ns : List TermNode) (ts : List TermId) (c : TermId) → AreIn ns ts → IsIn ns c → AreIn ns (ts ++ c ∷ [])
in-push ns [] c i j = ap (λ (b : Bool). b && true) (lt-ltb c.0 (length ns) j)
in-push ns (t ∷ ts) c i j = by (nat_lt t.0 (length ns)) (ids_below (length ns) ts) (ids_below (length ns) (ts ++ c ∷ [])) i (λ k. in-push ns ts c k j)
  where
    by : (a b d : Bool) → a && b ≡ true → (b ≡ true → d ≡ true) → a && d ≡ true
    by true b d e f = f e
    by false b d e f = cc

filter-push : (p : Tree → Bool) (xs : List Tree) (x : Tree) (b : Bool) → p x ≡ b → filter p (xs ++ x ∷ []) ≡ filter p xs ++ (if b then x ∷ [] else [])
filter-push p xs x b e = filter-append p xs (x ∷ []) ∙ ap (λ (c : Bool). filter p xs ++ (if c then x ∷ [] else [])) e

nil-end : (xs : List Tree) → xs ++ [] ≡ xs
nil-end [] = refl
nil-end (x ∷ xs) = ap (λ (ys : List Tree). x ∷ ys) (nil-end xs)

has-each : (ns : List TermNode) (s : Shared) (es : List Edge) (c : TermId) (b : Bool) → IsIn ns c → b ≡ nat_eq (count_of s.counts c.0) s.edges → IsShared ns es s
    → in_each (edges_on ns es) (tree_at (trees ns) c) ≡ b
has-each ns s es c b i e h = sym (h.counts c i) ∙ ap (nat_eq (count_of s.counts c.0)) (sym h.edges) ∙ sym e

pub OthersSoFar-none : (ns : List TermNode) (s : Shared) → OthersSoFar ns s [] []
OthersSoFar-none ns s = record { within = refl; kept = λ es h. refl }

pub OthersSoFar-skip : (ns : List TermNode) (s : Shared) (others seen after : List TermId) (c : TermId) → after ≡ seen ++ c ∷ [] → IsIn ns c → true ≡ nat_eq (count_of s.counts c.0) s.edges
    → OthersSoFar ns s others seen → OthersSoFar ns s others after
OthersSoFar-skip ns s others seen after c f i e o = subst (OthersSoFar ns s others) (sym f) (record {
  within = o.within;
  kept = λ es h.
      let p = λ (x : Tree). not (in_each (edges_on ns es) x) in
      o.kept es h ∙ sym (ap (filter p) (trees-push ns seen c) ∙ filter-push p (trees_at ns seen) (tree_at (trees ns) c) false (ap not (has-each ns s es c true i e h))
      ∙ nil-end (filter p (trees_at ns seen)));
})

pub OthersSoFar-push : (ns : List TermNode) (s : Shared) (others more seen after : List TermId) (c : TermId) → after ≡ seen ++ c ∷ [] → IsIn ns c → false ≡ nat_eq (count_of s.counts c.0) s.edges
    → more ≡ others ++ c ∷ [] → OthersSoFar ns s others seen → OthersSoFar ns s more after
OthersSoFar-push ns s others more seen after c f i e q o = subst (OthersSoFar ns s more) (sym f) (record {
  within = subst (AreIn ns) (sym q) (in-push ns others c o.within i);
  kept = λ es h.
      let p = λ (x : Tree). not (in_each (edges_on ns es) x) in
      ap (trees_at ns) q ∙ trees-push ns others c ∙ ap (λ (x : List Tree). x ++ tree_at (trees ns) c ∷ []) (o.kept es h)
      ∙ sym (ap (filter p) (trees-push ns seen c) ∙ filter-push p (trees_at ns seen) (tree_at (trees ns) c) true (ap not (has-each ns s es c false i e h)));
})

-- each listed term is one of the arena
pub listed-in : (ns : List TermNode) (ts : List TermId) (i : ℕ) (d : TermId) → AreIn ns ts → i < length ts → IsIn ns (get_or ts i d)
listed-in ns [] i d h l = absurd (omega arith)
listed-in ns (t ∷ ts) zero d h l = ltb-true t.0 (length ns) (first (nat_lt t.0 (length ns)) (ids_below (length ns) ts) h)
  where
    first : (a b : Bool) → a && b ≡ true → a ≡ true
    first true b e = refl
    first false b e = cc
listed-in ns (t ∷ ts) (suc i) d h l = listed-in ns ts i d (second (nat_lt t.0 (length ns)) (ids_below (length ns) ts) h) (omega arith)
  where
    second : (a b : Bool) → a && b ≡ true → b ≡ true
    second true b e = e
    second false b e = cc
