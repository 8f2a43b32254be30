-- An arena of terms: a list of nodes, in which each id stands for a tree.
use Rattle.std.specs.Prelude.{◌≡◌, ◌<◌, ℕ, ◌+◌, Bool, true, ◌&&◌, nat_lt, List, [], ◌∷◌, ◌++◌, length, map, slice_get, unwrap_or, Option, Some, IfOk, Result}
use Rattle.lh_types.specs.Types.{TypeTree}
use Rattle.lh_types.specs.ValueOf.{datum_of}
use Rattle.lh_types.specs.Apply.{no_value}
use Rattle.lh_term.specs.Tree.{Tree, constant, past_of, now_of, choice_of, operation_on}
use Rattle.lh_term.specs.Types.{IsTyped, type_of}
use Rattle.lh_term.specs.declared.term.TermId.{TermId}
use Rattle.lh_term.specs.declared.term.Term.{Term}
use Rattle.lh_term.specs.declared.term.Term.TheVariants.{Konst, Past, Now, Op as Applied, Choice}
use Rattle.lh_term.specs.declared.term.TermNode.{TermNode}

-- the tree at an id
abbrev pub tree_at : List Tree → TermId → Tree
tree_at ts t = unwrap_or (slice_get ts t.0) (constant no_value)

-- the tree of a term by ids
abbrev pub term_tree : List Tree → Term → Tree
term_tree ts (Konst v) = constant (datum_of v)
term_tree ts (Past p) = past_of p
term_tree ts (Now p) = now_of p
term_tree ts (Applied op args) = operation_on op (map (tree_at ts) args)
term_tree ts (Choice c f t) = choice_of (tree_at ts c) (tree_at ts f) (tree_at ts t)

-- each term has the tree that its operands' trees make, which stand before it
abbrev pub trees_from : List Tree → List Term → List Tree
trees_from ts [] = ts
trees_from ts (x ∷ xs) = trees_from (ts ++ term_tree ts x ∷ []) xs

abbrev pub terms_in : List TermNode → List Term
terms_in ns = map (λ n. n.term) ns

-- the trees of an arena, by their ids
abbrev pub trees : List TermNode → List Tree
trees ns = trees_from [] (terms_in ns)

-- the id is one of the first k
abbrev pub ids_below : ℕ → List TermId → Bool
ids_below k [] = true
ids_below k (a ∷ xs) = nat_lt a.0 k && ids_below k xs

-- the term's ids are of the first k
abbrev pub term_below : ℕ → Term → Bool
term_below k (Konst v) = true
term_below k (Past p) = true
term_below k (Now p) = true
term_below k (Applied op args) = ids_below k args
term_below k (Choice c f t) = nat_lt c.0 k && (nat_lt f.0 k && nat_lt t.0 k)

-- each term's ids are of the terms before it, the first being the term k
abbrev pub all_below : ℕ → List Term → Bool
all_below k [] = true
all_below k (x ∷ xs) = term_below k x && all_below (k + 1) xs

-- a term stands once
abbrev pub StandsOnce : List Term → Type 0
StandsOnce xs = (i j : ℕ) (x : Term) → slice_get xs i ≡ Some x → slice_get xs j ≡ Some x → i ≡ j

-- the node's operands fit, and its type is the term's
abbrev pub IsTypedNode : List Tree → TermNode → Type 0
IsTypedNode ts n = IsTyped (term_tree ts n.term) × (n.ty ≡ type_of (term_tree ts n.term))

-- ids rise from the leaves, no term stands twice, and each is typed
pub record IsArena (ns : List TermNode) : Type 0 where
  pub below : all_below 0 (terms_in ns) ≡ true
  pub once : StandsOnce (terms_in ns)
  pub typed : (i : ℕ) (n : TermNode) → slice_get ns i ≡ Some n → IsTypedNode (trees ns) n

-- the id is one of the arena
abbrev pub IsIn : List TermNode → TermId → Type 0
IsIn ns t = t.0 < length ns

-- each id is one of the arena
abbrev pub AreIn : List TermNode → List TermId → Type 0
AreIn ns ts = ids_below (length ns) ts ≡ true

-- the trees of ids
abbrev pub trees_at : List TermNode → List TermId → List Tree
trees_at ns ts = map (tree_at (trees ns)) ts

-- the id is one of the arena, and stands for the tree
pub record StandsForTree (ns : List TermNode) (t : TermId) (x : Tree) : Type 0 where
  pub is_in : IsIn ns t
  pub tree : tree_at (trees ns) t ≡ x

-- two ids of one tree are one
abbrev pub OneId : List TermNode → Type 0
OneId ns = (x y : TermId) → IsIn ns x → IsIn ns y → tree_at (trees ns) x ≡ tree_at (trees ns) y → x ≡ y

-- every term is typed
abbrev pub AllTyped : List TermNode → Type 0
AllTyped ns = (x : TermId) → IsIn ns x → IsTyped (tree_at (trees ns) x)

-- terms were added, and those that were there keep their ids
abbrev pub Grows : List TermNode → List TermNode → Type 0
Grows old new = (more : List TermNode) × (new ≡ old ++ more)
