-- Conditions at places: what a drive and a branch ask for.
use Rattle.std.specs.Prelude.{◌≡◌, ℕ, List, Some}
use Rattle.lh_term.specs.Tree.{Tree}
pub use Rattle.lh_term.specs.Make.{negation}
use Rattle.lh_term.specs.Arena.{StandsForTree}
use Rattle.lh_term.specs.declared.term.TermId.{TermId}
use Rattle.lh_term.specs.declared.term.TermNode.{TermNode}
use Rattle.lh_region_def.specs.Typed.{IsCondition}
use Rattle.lh_region_def.specs.Places.{both}
use Rattle.lh_region_places.specs.declared.state.PlaceState.{PlaceState}
use Rattle.lh_region_places.specs.Asked.{KnownTerms, Tells}

-- a condition is told of value v at a place
pub record CanTest (ns : List TermNode) (ps : List PlaceState) (v i : ℕ) : Type 0 where
  pub told : KnownTerms
  pub tells : Tells ns ps told
  pub cond : Tree
  pub is : told i v ≡ Some cond
  pub condition : IsCondition cond

-- The term is the condition c and what is told of value v at a place.
abbrev pub IsAnd : List TermNode → List PlaceState → List TermNode → (v i : ℕ) → Tree → TermId → Type 0
IsAnd ns ps ms v i c t = (told : KnownTerms) (x : Tree) → Tells ns ps told → told i v ≡ Some x → StandsForTree ms t (both c x)

-- The term is the condition c where what is told of value v at a place is 0.
abbrev pub IsAndNot : List TermNode → List PlaceState → List TermNode → (v i : ℕ) → Tree → TermId → Type 0
IsAndNot ns ps ms v i c t = (told : KnownTerms) (x : Tree) → Tells ns ps told → told i v ≡ Some x → StandsForTree ms t (both c (negation x))
