-- The place that is treated, which is the last one, gives a term to a value or a variable.
use Rattle.std.specs.Prelude.{◌≡◌, ℕ, ◌+◌, ◌<◌, List, ◌&&◌, length, nat_eq, if◌then◌else◌, Some}
use Rattle.lh_term.specs.Tree.{Tree}
use Rattle.lh_term.specs.Arena.{StandsForTree}
use Rattle.lh_term.specs.declared.term.TermId.{TermId}
use Rattle.lh_term.specs.declared.term.TermNode.{TermNode}
use Rattle.lh_region_def.specs.Known.{Known, Knowledge, with_known}
use Rattle.lh_region_places.specs.declared.state.PlaceState.{PlaceState}
use Rattle.lh_region_places.specs.Asked.{Tells}
use Rattle.lh_region.specs.Walking.{as_term, Story, TellsKnown}

-- the story with this term of a value at a place
abbrev pub with_term : Story → (place value : ℕ) → Tree → Story
with_term s i v x = record { naming = s.naming; values = s.values; blocks = s.blocks; places = s.places; told = λ j w. if nat_eq i j && nat_eq v w then Some x else s.told j w }

-- no two values have one name
abbrev pub ValuesDiffer : Story → Type 0
ValuesDiffer s = (v w : ℕ) → v < s.values → w < s.values → s.naming.value_name v ≡ s.naming.value_name w → v ≡ w

-- What was told is still told but of this value at this place, where it is the new term; and this is known there under its name.
pub record TellsGiven (ns : List TermNode) (qs : List PlaceState) (s : Story) (i v : ℕ) (k : Knowledge) (a : Known) (x : Tree) : Type 0 where
  pub tells : Tells ns qs (with_term s i v x).told
  pub known : TellsKnown (with_term s i v x) i (with_known k (s.naming.value_name v) a)
  pub before : (j w : ℕ) → j < i → (with_term s i v x).told j w ≡ s.told j w

-- The last place gives the term to a value, of whatever is told and known so far.
abbrev pub GivesTerm : List PlaceState → (i v : ℕ) → TermId → List PlaceState → Type 0
GivesTerm ps i v t qs =
    (ns : List TermNode) (s : Story) (k : Knowledge) (a : Known) (x : Tree) → Tells ns ps s.told → s.places ≡ length ps → i + 1 ≡ s.places → v < s.values → ValuesDiffer s → as_term a ≡ Some x
    → StandsForTree ns t x → TellsKnown s i k →
    TellsGiven ns qs s i v k a x
