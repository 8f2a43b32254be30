-- A walk over the terms that a term is joined of.
use Rattle.std.proofs.Common.{◌≡◌, ℕ, Bool, true, false, not, ◌||◌, if◌then◌else◌, List, [], ◌∷◌, map, refl, ap, sym, ◌∙◌, Some, slice_get, Result, Ok, Err, IfOk, OnOk}
use Rattle.lh_term.specs.declared.term.TermId.{TermId}
use Rattle.lh_term.specs.declared.term.Term.{Term}
use Rattle.lh_term.specs.declared.term.Term.TheVariants.{Konst, Past, Now, Op as Applied, Choice}
use Rattle.lh_term.specs.declared.term.TermNode.{TermNode}
use Rattle.lh_term.specs.Tree.{Tree, tree_row}
use Rattle.lh_term.specs.Arena.{tree_at, trees, terms_in, term_tree, ids_below}
use Rattle.lh_term.specs.Reach.{operands_of, is_on, LeavesChildren}
use Rattle.lh_edge.specs.Atoms.{is_one_bit, is_connective}
use Rattle.lh_edge.specs.Reached.{joined_by, is_atom}
use Rattle.lh_edge.proofs.Joined.{atom_joins}

-- a term that is a connective joins all its operands
joins_all : (ts : List Tree) (k : Term) → is_atom (term_tree ts k) ≡ false → joined_by ts k ≡ operands_of k
joins_all ts (Konst v) e = refl
joins_all ts (Past p) e = refl
joins_all ts (Now p) e = refl
joins_all ts (Applied op args) e = at (is_connective op (tree_row (map (tree_at ts) args))) e
  where
    at : (b : Bool) → not b ≡ false → (if b then args else []) ≡ args
    at true h = refl
    at false h = cc
joins_all ts (Choice c f t) e = at (is_one_bit (tree_at ts f)) e
  where
    at : (b : Bool) → not b ≡ false → (if b then c ∷ f ∷ t ∷ [] else []) ≡ c ∷ f ∷ t ∷ []
    at true h = refl
    at false h = cc

module _ (ns : List TermNode) (x : TermId) (f g : ℕ → Bool) (v : Term) (is : slice_get (terms_in ns) x.0 ≡ Some v) (shown : term_tree (trees ns) v ≡ tree_at (trees ns) x) where
  the_term : (k : Term) → slice_get (terms_in ns) x.0 ≡ Some k → term_tree (trees ns) k ≡ tree_at (trees ns) x
  the_term k at = let e : Some v ≡ Some k = sym is ∙ at in let same : v ≡ k = cc in ap (term_tree (trees ns)) (sym same) ∙ shown

  pub leaves_none : is_atom (tree_at (trees ns) x) ≡ true → ((q : ℕ) → g q ≡ f q) → (k : Term) → slice_get (terms_in ns) x.0 ≡ Some k → LeavesChildren (joined_by (trees ns)) ns x f g k
  leaves_none e h k at =
      let n : joined_by (trees ns) k ≡ [] = atom_joins (trees ns) k (ap is_atom (the_term k at) ∙ e) in
      record { shown = the_term k at; below = ap (ids_below x.0) n; left = λ q. h q ∙ ap (λ xs. is_on xs q || f q) (sym n) }

  pub leaves_all : is_atom (tree_at (trees ns) x) ≡ false → ((k : Term) → slice_get (terms_in ns) x.0 ≡ Some k → LeavesChildren operands_of ns x f g k) → (k : Term) → slice_get (terms_in ns) x.0 ≡ Some k
      → LeavesChildren (joined_by (trees ns)) ns x f g k
  leaves_all e h k at =
      let n : joined_by (trees ns) k ≡ operands_of k = joins_all (trees ns) k (ap is_atom (the_term k at) ∙ e) in
      let o = h k at in
      record { shown = o.shown; below = ap (ids_below x.0) n ∙ o.below; left = λ q. o.left q ∙ ap (λ xs. is_on xs q || f q) (sym n) }

pub if_ok : {A B : Type 0} (r : Result A B) {P Q : A → Type 0} → ((x : A) → P x → Q x) → IfOk r P → IfOk r Q
if_ok (Ok x) f h = f x h
if_ok (Err x) f h = tt

pub on_ok : {A B : Type 0} (r : Result A B) {P Q : Type 0} → (P → Q) → OnOk r P → OnOk r Q
on_ok (Ok x) f h = f h
on_ok (Err x) f h = tt
