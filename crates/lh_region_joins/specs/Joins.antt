-- Edges by the ids of their conditions, as edges of which the conditions alone are told.
use Rattle.std.specs.Prelude.{◌≡◌, ℕ, ◌+◌, ◌≤◌, List, [], ◌∷◌, length, map, Bool, ◌&&◌, not, nat_eq, if◌then◌else◌, unwrap_or, Some}
use Rattle.std.specs.List.{list_any, filter}
use Rattle.std.specs.HashMap.{HashMap, get}
use Rattle.lh_unit.specs.Within.{Each}
use Rattle.lh_term.specs.Tree.{Tree}
use Rattle.lh_term.specs.Arena.{trees, tree_at, trees_at, IsIn, AreIn, StandsForTree}
use Rattle.lh_term.specs.Conjuncts.{conjuncts_of}
use Rattle.lh_term.specs.Make.{make_choice}
use Rattle.lh_term.specs.Types.{IsTyped, type_of}
use Rattle.lh_term.specs.declared.term.TermId.{TermId}
use Rattle.lh_term.specs.declared.term.TermNode.{TermNode}
use Rattle.lh_region_def.specs.Known.{nothing_known}
use Rattle.lh_region_def.specs.Joins.{RegionEdge, any_taken, in_each, selector, merged}
use Rattle.lh_region_def.specs.Typed.{IsCondition}
use Rattle.lh_region_joins.specs.declared.edge.Edge.{Edge}
use Rattle.lh_region_joins.specs.declared.joins.Shared.{Shared}

-- the term is one of the arena, and of one bit
pub record IsConditionAt (ns : List TermNode) (t : TermId) : Type 0 where
  pub is_in : IsIn ns t
  pub cond : IsCondition (tree_at (trees ns) t)

-- each condition is so
abbrev pub AreConditions : List TermNode → List Edge → Type 0
AreConditions ns es = Each (λ (e : Edge). IsConditionAt ns e.cond) es

-- an edge on this condition, wherever it comes from and leads
abbrev pub edge_on : Tree → RegionEdge
edge_on c = record { to = record { turns = 0; block = 0 }; from = []; cond = c; known = nothing_known }

abbrev pub edges_on : List TermNode → List Edge → List RegionEdge
edges_on ns es = map (λ (e : Edge). edge_on (tree_at (trees ns) e.cond)) es

-- ---- which conjuncts all of some edges have

abbrev pub count_of : {S : Type 0} → HashMap ℕ ℕ S → ℕ → ℕ
count_of m q = unwrap_or (get nat_eq m q) 0

-- the term of this number is listed
abbrev pub is_listed : List TermId → ℕ → Bool
is_listed ts q = list_any (λ (t : TermId). nat_eq t.0 q) ts

-- one more, where all so far were counted and this is one of them
abbrev pub raised : (all : ℕ) → (is_one : Bool) → (count : ℕ) → ℕ
raised all b n = if nat_eq n all && b then all + 1 else n

-- a term is counted as often as there are edges where all of them have it as a conjunct, and less often where not
pub record IsShared (ns : List TermNode) (es : List Edge) (s : Shared) : Type 0 where
  pub edges : s.edges ≡ length es
  pub below : (q : ℕ) → count_of s.counts q ≤ length es
  pub counts : (t : TermId) → IsIn ns t → nat_eq (count_of s.counts t.0) (length es) ≡ in_each (edges_on ns es) (tree_at (trees ns) t)

-- ---- selectors and merged values

abbrev pub after_first : {A : Type 0} → List A → List A
after_first [] = []
after_first (x ∷ more) = more

-- each id stands for its tree
abbrev pub AreTerms : List TermNode → List TermId → List Tree → Type 0
AreTerms ns [] [] = Unit {0}
AreTerms ns (t ∷ ts) (x ∷ xs) = StandsForTree ns t x × AreTerms ns ts xs
AreTerms ns _ _ = ⊥

-- the conjuncts of each of these edges that not all have
abbrev pub AreOthers : List TermNode → (all : List RegionEdge) → List RegionEdge → List (List TermId) → Type 0
AreOthers ns all [] [] = Unit {0}
AreOthers ns all (e ∷ es) (ts ∷ more) = AreIn ns ts × (trees_at ns ts ≡ filter (λ c. not (in_each all c)) (conjuncts_of e.cond)) × AreOthers ns all es more
AreOthers ns all _ _ = ⊥

-- the value so far, or that of a further edge where its selector is 1
abbrev pub chosen_by : (selectors : List Tree) → (so_far : Tree) → (values : List Tree) → Tree
chosen_by (s ∷ ss) t (v ∷ vs) = chosen_by ss (make_choice s t v) vs
chosen_by _ t _ = t

-- a condition, and two terms of one type
pub record CanChoose (ns : List TermNode) (s t v : TermId) : Type 0 where
  pub selector : IsConditionAt ns s
  pub first_in : IsIn ns t
  pub second_in : IsIn ns v
  pub typed : IsTyped (tree_at (trees ns) t) × IsTyped (tree_at (trees ns) v)
  pub alike : type_of (tree_at (trees ns) t) ≡ type_of (tree_at (trees ns) v)

-- a condition for each value after the first, and values of one type
pub record CanMerge (ns : List TermNode) (selectors : List TermId) (first : TermId) (others : List TermId) : Type 0 where
  pub long : length selectors ≡ length others
  pub conds : Each (IsConditionAt ns) selectors
  pub first_in : IsIn ns first
  pub typed : IsTyped (tree_at (trees ns) first)
  pub alike : Each (λ (v : TermId). IsIn ns v × IsTyped (tree_at (trees ns) v) × (type_of (tree_at (trees ns) first) ≡ type_of (tree_at (trees ns) v))) others

-- ---- laws

-- the same edges, of which the conditions alone are told
abbrev pub on_conditions : List RegionEdge → List RegionEdge
on_conditions es = map (λ (e : RegionEdge). edge_on e.cond) es

-- Control comes by some of the edges where one of their conditions is 1.
abbrev pub TakenByConditions : Type 0
TakenByConditions = (es : List RegionEdge) → any_taken es ≡ any_taken (on_conditions es)

-- What is merged depends on the conditions of edges alone: the first value, and each further one by its selector.
abbrev pub MergedByConditions : Type 0
MergedByConditions = (e : RegionEdge) (es : List RegionEdge) (v : Tree) (vs : List Tree) → merged (e ∷ es) (v ∷ vs) ≡ Some (chosen_by (map (selector (on_conditions (e ∷ es))) (on_conditions es)) v vs)
