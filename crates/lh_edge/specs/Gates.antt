-- What the calls that make gates compute on the way.
use Rattle.std.specs.Prelude.{◌≡◌, Bool, true, List, [], ◌∷◌, ◌++◌, if◌then◌else◌, Option, Some, None}
use Rattle.std.specs.List.{list_any}
use Rattle.lh_types.specs.Types.{int_type}
use Rattle.lh_term.specs.declared.part.Part.{Part}
use Rattle.lh_term.specs.declared.term.TermId.{TermId}
use Rattle.lh_term.specs.declared.term.TermNode.{TermNode}
use Rattle.lh_term.specs.Arena.{tree_at, trees}
use Rattle.lh_term.specs.Tree.{Tree, past_of, now_of}
use Rattle.lh_term.specs.Same.{same_part}
use Rattle.lh_term.specs.Subst.{AreSwaps, PairsIn, pairs_at, is_first, swapped}
use Rattle.lh_edge.specs.Triggers.{pasts_in, gate_of}
use Rattle.lh_edge.specs.Steps.{IsPresent}

-- parts of one bit
abbrev pub AllBit : List Part → Type 0
AllBit [] = Unit {0}
AllBit (p ∷ ps) = (p.ty ≡ int_type 1) × AllBit ps

-- the values of parts before, each with the value now
abbrev pub ArePresents : List (Tree × Tree) → Type 0
ArePresents [] = Unit {0}
ArePresents (p ∷ ps) = ((q : Part) × (p.0 ≡ past_of q) × (p.1 ≡ now_of q)) × ArePresents ps

-- those of all parts whose values before are in a condition
pub record IsPresents (ns : List TermNode) (c : Tree) (pairs : List (TermId × TermId)) : Type 0 where
  pub pairs_in : PairsIn ns pairs
  pub each : ArePresents (pairs_at ns pairs)
  pub whole : (q : Part) → list_any (same_part q) (pasts_in c) ≡ true → is_first (pairs_at ns pairs) (past_of q) ≡ true

-- the pairs are swaps that make the gate of a rise or fall of a part
pub record MakesGate (ns : List TermNode) (rise : Bool) (p : Part) (c : Tree) (pairs : List (TermId × TermId)) : Type 0 where
  pub pairs_in : PairsIn ns pairs
  pub swaps : AreSwaps (pairs_at ns pairs)
  pub gate : swapped (pairs_at ns pairs) c ≡ gate_of rise p c

-- the pairs with one more, unless its first is first in another
abbrev pub with_pair : List TermNode → List (TermId × TermId) → TermId × TermId → List (TermId × TermId)
with_pair ns ps p = if is_first (pairs_at ns ps) (tree_at (trees ns) p.0) then ps else ps ++ p ∷ []

-- the pairs with that of a value before and the value now, if there is one
abbrev pub with_present : List (TermId × TermId) → TermId → Option TermId → List (TermId × TermId)
with_present ps x None = ps
with_present ps x (Some y) = ps ++ (x, y) ∷ []

-- a term was added with the value now of the part whose value before it is, if it is one
pub record Gathers (old new : List TermNode) (ps : List (TermId × TermId)) (x : TermId) (more : List (TermId × TermId)) : Type 0 where
  pub found : Option TermId
  pub made : IsPresent new (tree_at (trees old) x) found
  pub added : more ≡ with_present ps x found
