-- The triggers of a condition in their order: which parts can show, each once, by argument and then by lowest bit.
use Rattle.std.specs.Prelude.{◌≡◌, true, false, ◌&&◌, List, [], ◌∷◌}
use Rattle.std.specs.List.{list_any}
use Rattle.lh_term.specs.declared.part.Part.{Part}
use Rattle.lh_term.specs.Same.{same_part}
use Rattle.lh_term.specs.Tree.{Tree, past_of}
use Rattle.lh_edge.specs.Atoms.{edge_part, has, atoms_of}
use Rattle.lh_edge.specs.Shown.{can_show}
use Rattle.lh_edge.specs.Triggers.{comes_first, triggers_at, triggers_of}

-- the part comes before each of these
abbrev pub IsBefore : Part → List Part → Type 0
IsBefore p [] = Unit {0}
IsBefore p (q ∷ more) = (comes_first p q ≡ true) × IsBefore p more

-- each part comes before those behind it
abbrev pub AreSorted : List Part → Type 0
AreSorted [] = Unit {0}
AreSorted (p ∷ more) = IsBefore p more × AreSorted more

-- no part stands twice
abbrev pub DistinctParts : List Part → Type 0
DistinctParts [] = Unit {0}
DistinctParts (p ∷ ps) = (list_any (same_part p) ps ≡ false) × DistinctParts ps

-- these are the parts that can show the condition, each once and in order: the parts of one bit that are waited on and whose values before are atoms of its edge part
pub record AreShowing (waited : List Part) (c : Tree) (parts : List Part) : Type 0 where
  pub sorted : AreSorted parts
  pub once : DistinctParts parts
  pub members : (p : Part) → list_any (same_part p) parts ≡ (can_show waited p && has (atoms_of (edge_part c)) (past_of p))

-- The triggers are the rise and fall of each of them.
abbrev pub TriggersAreInOrder : Type 0
TriggersAreInOrder = (waited : List Part) (c : Tree) → (parts : List Part) × AreShowing waited c parts × (triggers_of waited c ≡ triggers_at c parts)
