-- The terms that a term is joined of.
use Rattle.std.proofs.Common.{◌≡◌, ℕ, Bool, true, false, not, nat_eq, if◌then◌else◌, List, [], ◌∷◌, ◌++◌, map, refl, sym, ap, ◌∙◌, inl, inr, append-nil}
use Rattle.std.proofs.lemmas.Bool.{or_cases, or_left, or_right}
use Rattle.lh_types.specs.ValueOf.{datum_of}
use Rattle.lh_term.specs.declared.term.TermId.{TermId}
use Rattle.lh_term.specs.declared.term.Term.{Term}
use Rattle.lh_term.specs.declared.term.Term.TheVariants.{Konst, Past, Now, Op as Applied, Choice}
use Rattle.lh_term.specs.declared.term.TermNode.{TermNode}
use Rattle.lh_term.specs.Tree.{Tree, constant, choice_of, tree_row, operation_on}
use Rattle.lh_types.specs.Same.{nat_eq-refl, nat_eq-is}
use Rattle.lh_term.specs.Arena.{tree_at, trees, term_tree}
use Rattle.lh_term.specs.Reach.{is_on}
use Rattle.lh_edge.specs.Atoms.{is_one_bit, is_connective, subterms, subterms_in, has}
use Rattle.lh_edge.specs.Reached.{joined_by, is_atom}
use Rattle.lh_edge.proofs.Bools.{has_append, has_left, has_right}

-- ---- the subterms of what is joined

abbrev pub joins : List Tree → List Tree
joins [] = []
joins (t ∷ ts) = subterms t ++ joins ts

row_joins : (ts : List Tree) → subterms_in (tree_row ts) ≡ joins ts
row_joins [] = refl
row_joins (t ∷ ts) = ap (λ r. subterms t ++ r) (row_joins ts)

-- a term is no connective and its own subterm, or has those of what it joins
abbrev pub IsJoined : List Tree → Term → Bool → Type 0
IsJoined ts k true = subterms (term_tree ts k) ≡ term_tree ts k ∷ []
IsJoined ts k false = subterms (term_tree ts k) ≡ joins (map (tree_at ts) (joined_by ts k))

pub is_joined : (ts : List Tree) (k : Term) → IsJoined ts k (is_atom (term_tree ts k))
is_joined ts (Konst v) = at (is_one_bit (constant (datum_of v))) refl
  where
    at : (b : Bool) → is_one_bit (constant (datum_of v)) ≡ b → IsJoined ts (Konst v) (not b)
    at true e = ap (λ (c : Bool). if c then [] else constant (datum_of v) ∷ []) e
    at false e = ap (λ (c : Bool). if c then [] else constant (datum_of v) ∷ []) e
is_joined ts (Past p) = refl
is_joined ts (Now p) = refl
is_joined ts (Applied op args) = at (is_connective op (tree_row (map (tree_at ts) args))) refl
  where
    at : (b : Bool) → is_connective op (tree_row (map (tree_at ts) args)) ≡ b → IsJoined ts (Applied op args) (not b)
    at true e =
        ap (λ (c : Bool). if c then subterms_in (tree_row (map (tree_at ts) args)) else operation_on op (map (tree_at ts) args) ∷ []) e
        ∙ row_joins (map (tree_at ts) args)
        ∙ ap (λ (c : Bool). joins (map (tree_at ts) (if c then args else []))) (sym e)
    at false e = ap (λ (c : Bool). if c then subterms_in (tree_row (map (tree_at ts) args)) else operation_on op (map (tree_at ts) args) ∷ []) e
is_joined ts (Choice c f t) = at (is_one_bit (tree_at ts f)) refl
  where
    x : Tree
    x = choice_of (tree_at ts c) (tree_at ts f) (tree_at ts t)

    all : List Tree
    all = subterms (tree_at ts c) ++ (subterms (tree_at ts f) ++ subterms (tree_at ts t))

    at : (b : Bool) → is_one_bit (tree_at ts f) ≡ b → IsJoined ts (Choice c f t) (not b)
    at true e =
        ap (λ (b : Bool). if b then all else x ∷ []) e
        ∙ ap (λ r. subterms (tree_at ts c) ++ (subterms (tree_at ts f) ++ r)) (sym (append-nil (subterms (tree_at ts t))))
        ∙ ap (λ (b : Bool). joins (map (tree_at ts) (if b then c ∷ f ∷ t ∷ [] else []))) (sym e)
    at false e = ap (λ (b : Bool). if b then all else x ∷ []) e

-- nothing is joined by a term that is no connective
pub atom_joins : (ts : List Tree) (k : Term) → is_atom (term_tree ts k) ≡ true → joined_by ts k ≡ []
atom_joins ts (Konst v) e = refl
atom_joins ts (Past p) e = refl
atom_joins ts (Now p) e = refl
atom_joins ts (Applied op args) e = at (is_connective op (tree_row (map (tree_at ts) args))) e
  where
    at : (b : Bool) → not b ≡ true → (if b then args else []) ≡ []
    at true e = cc
    at false e = refl
atom_joins ts (Choice c f t) e = at (is_one_bit (tree_at ts f)) e
  where
    at : (b : Bool) → not b ≡ true → (if b then c ∷ f ∷ t ∷ [] else []) ≡ []
    at true e = cc
    at false e = refl

pub at_place : (ts : List Tree) (x : TermId) (j : ℕ) → j ≡ x.0 → tree_at ts (record { 0 = j }) ≡ tree_at ts x
at_place ts x j e = ap (λ n. tree_at ts (record { 0 = n })) e

on_joins : (ts : List Tree) (xs : List TermId) (j : ℕ) (t : Tree) → is_on xs j ≡ true → has (subterms (tree_at ts (record { 0 = j }))) t ≡ true → has (joins (map (tree_at ts) xs)) t ≡ true
on_joins ts [] j t a h = cc
on_joins ts (x ∷ xs) j t a h = elim (or_cases (nat_eq j x.0) (is_on xs j) a) [
  | inl e ↦ has_left (subterms (tree_at ts x)) (joins (map (tree_at ts) xs)) t (ap (λ u. has (subterms u) t) (sym (at_place ts x j (nat_eq-is j x.0 e))) ∙ h)
  | inr r ↦ has_right (subterms (tree_at ts x)) (joins (map (tree_at ts) xs)) t (on_joins ts xs j t r h)
]

-- which of the joined terms has the subterm
pub record FoundIn (ts : List Tree) (xs : List TermId) (t : Tree) : Type 0 where
  pub id : TermId
  pub is_one : is_on xs id.0 ≡ true
  pub there : has (subterms (tree_at ts id)) t ≡ true

pub found_in : (ts : List Tree) (xs : List TermId) (t : Tree) → has (joins (map (tree_at ts) xs)) t ≡ true → FoundIn ts xs t
found_in ts [] t h = cc
found_in ts (x ∷ xs) t h = elim (or_cases (has (subterms (tree_at ts x)) t) (has (joins (map (tree_at ts) xs)) t) (sym (has_append (subterms (tree_at ts x)) (joins (map (tree_at ts) xs)) t) ∙ h)) [
  | inl k ↦ record { id = x; is_one = or_left (nat_eq x.0 x.0) (is_on xs x.0) (nat_eq-refl x.0); there = k }
  | inr k ↦ let r = found_in ts xs t k in record { id = r.id; is_one = or_right (nat_eq r.id.0 x.0) (is_on xs r.id.0) r.is_one; there = r.there }
]

-- what a joined term has is of the term
pub joined_sound : (ns : List TermNode) (i : ℕ) (k : Term) → term_tree (trees ns) k ≡ tree_at (trees ns) (record { 0 = i }) → (j : ℕ) (t : Tree) → is_on (joined_by (trees ns) k) j ≡ true
    → has (subterms (tree_at (trees ns) (record { 0 = j }))) t ≡ true → has (subterms (tree_at (trees ns) (record { 0 = i }))) t ≡ true
joined_sound ns i k s j t a h = at (is_atom (term_tree (trees ns) k)) refl (is_joined (trees ns) k)
  where
    at : (b : Bool) → is_atom (term_tree (trees ns) k) ≡ b → IsJoined (trees ns) k b → has (subterms (tree_at (trees ns) (record { 0 = i }))) t ≡ true
    at true e q = let n : is_on [] j ≡ true = ap (λ xs. is_on xs j) (sym (atom_joins (trees ns) k e)) ∙ a in cc
    at false e q =
        ap (λ u. has (subterms u) t) (sym s) ∙ ap (λ us. has us t) q ∙ on_joins (trees ns) (joined_by (trees ns) k) j t a h
