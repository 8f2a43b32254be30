-- The terms that some terms lead to, by their ids, and which were made in their places.
use Rattle.std.specs.Prelude.{◌≡◌, ℕ, Bool, true, false, ◌||◌, nat_eq, List, [], ◌∷◌, slice_get, Option, Some}
use Rattle.std.specs.Option.{is_some}
use Rattle.lh_term.specs.Tree.{Tree}
use Rattle.lh_term.specs.Arena.{tree_at, trees, terms_in, term_tree, ids_below, AreIn, StandsForTree}
use Rattle.lh_term.specs.Subst.{swapped}
use Rattle.lh_term.specs.declared.term.TermId.{TermId}
use Rattle.lh_term.specs.declared.term.Term.{Term}
use Rattle.lh_term.specs.declared.term.Term.TheVariants.{Konst, Past, Now, Op as Applied, Choice}
use Rattle.lh_term.specs.declared.term.TermNode.{TermNode}

-- the operands of a term
abbrev pub operands_of : Term → List TermId
operands_of (Konst v) = []
operands_of (Past p) = []
operands_of (Now p) = []
operands_of (Applied op args) = args
operands_of (Choice c f t) = c ∷ f ∷ t ∷ []

-- to which terms a term leads: to its operands, or to some of them
abbrev pub Leads : Type 0
Leads = Term → List TermId

-- whether the number is one of these ids
abbrev pub is_on : List TermId → ℕ → Bool
is_on [] i = false
is_on (x ∷ xs) i = nat_eq i x.0 || is_on xs i

-- each of these ids passes
abbrev pub AllPass : (ℕ → Bool) → List TermId → Type 0
AllPass f [] = Unit {0}
AllPass f (x ∷ xs) = (f x.0 ≡ true) × AllPass f xs

-- the terms to which x, whose term is k, leads were left to be looked at; they are before it
pub record LeavesChildren (leads : Leads) (ns : List TermNode) (x : TermId) (old new : ℕ → Bool) (k : Term) : Type 0 where
  pub shown : term_tree (trees ns) k ≡ tree_at (trees ns) x
  pub below : ids_below x.0 (leads k) ≡ true
  pub left : (q : ℕ) → new q ≡ (is_on (leads k) q || old q)

-- k is the term of x, and those to which it leads are among more, or are still to be looked at
pub record LooksFurther (leads : Leads) (ns : List TermNode) (left : ℕ → Bool) (x : TermId) (more : List TermId) (k : Term) : Type 0 where
  pub shown : term_tree (trees ns) k ≡ tree_at (trees ns) x
  pub on : AllPass (λ i. is_on more i || left i) (leads k)

-- each of these terms leads to those behind it, or to what is still to be looked at
abbrev pub GoOn : Leads → List TermNode → (ℕ → Bool) → List TermId → Type 0
GoOn leads ns left [] = Unit {0}
GoOn leads ns left (x ∷ more) = ((k : Term) → slice_get (terms_in ns) x.0 ≡ Some k → LooksFurther leads ns left x more k) × GoOn leads ns left more

abbrev pub none_left : ℕ → Bool
none_left i = false

-- where a term passes, so do those to which it leads
abbrev pub PassesOn : Leads → List TermNode → (ℕ → Bool) → Type 0
PassesOn leads ns p = (i : ℕ) (k : Term) → slice_get (terms_in ns) i ≡ Some k → term_tree (trees ns) k ≡ tree_at (trees ns) (record { 0 = i }) → p i ≡ true → AllPass p (leads k)

-- the terms that some terms lead to: these, behind each those to which it leads, and no others
pub record AreReached (leads : Leads) (ns : List TermNode) (xs ids : List TermId) : Type 0 where
  pub are_in : AreIn ns ids
  pub there : AllPass (is_on ids) xs
  pub go_on : GoOn leads ns none_left ids
  pub only : (p : ℕ → Bool) → PassesOn leads ns p → AllPass p xs → AllPass p ids

-- for each id there is what was made in its place, which stands for its term with the values of parts replaced
abbrev pub AllMade : List TermNode → List (Tree × Tree) → (ℕ → Option TermId) → List TermId → Type 0
AllMade ns by made [] = Unit {0}
AllMade ns by made (x ∷ xs) = (y : TermId) × (made x.0 ≡ Some y) × StandsForTree ns y (swapped by (tree_at (trees ns) x)) × AllMade ns by made xs

-- there is what was made in place of each operand of x
abbrev pub OperandsMade : List TermNode → List (Tree × Tree) → TermId → (ℕ → Option TermId) → Type 0
OperandsMade ns by x made = (k : Term) → slice_get (terms_in ns) x.0 ≡ Some k → AllMade ns by made (operands_of k)

-- something was made in place of each
abbrev pub AreMade : (ℕ → Option TermId) → List TermId → Type 0
AreMade made xs = AllPass (λ i. is_some (made i)) xs

-- what was made in place of ids, one by one
abbrev pub MadeFor : (ℕ → Option TermId) → List TermId → List TermId → Type 0
MadeFor made [] [] = Unit {0}
MadeFor made (x ∷ xs) (y ∷ ys) = (made x.0 ≡ Some y) × MadeFor made xs ys
MadeFor made _ _ = ⊥
