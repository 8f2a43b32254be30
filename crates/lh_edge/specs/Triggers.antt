-- The triggers of an edge-shown condition.
use Rattle.std.specs.Prelude.{◌≡◌, Bool, true, false, not, ◌&&◌, ◌||◌, nat_eq, nat_le, nat_lt, if◌then◌else◌, List, [], ◌∷◌, ◌++◌, ◌⊎◌}
use Rattle.std.specs.List.{list_any}
use Rattle.lh_types.specs.Types.{int_type}
use Rattle.lh_types.specs.Apply.{bit_value}
use Rattle.lh_term.specs.declared.part.Part.{Part}
use Rattle.lh_term.specs.Tree.{Tree, TreeRow, constant, past_of, now_of, operation, choice_of, no_trees, more_trees}
use Rattle.lh_term.specs.Mean.{Valuation, mean}
use Rattle.lh_term.specs.Make.{is_bit, bit_of}
use Rattle.lh_term.specs.Same.{same_part}
use Rattle.lh_term.specs.Subst.{swapped}
use Rattle.lh_term_cover.specs.Bits.{covers}
use Rattle.lh_edge.specs.Atoms.{edge_part, atoms_of}
use Rattle.lh_edge.specs.Shown.{showing_parts}

-- a rise or fall of a part at which a condition holds, where the gate is 1
pub record TriggerTree : Type 0 where
  pub rise : Bool
  pub part : Part
  pub gate : Tree

abbrev mutual
  -- the parts whose values before are in a term
  pub pasts_in : Tree → List Part
  pasts_in (constant v) = []
  pasts_in (past_of p) = p ∷ []
  pasts_in (now_of p) = []
  pasts_in (operation op ts) = pasts_in_row ts
  pasts_in (choice_of c f t) = pasts_in c ++ (pasts_in f ++ pasts_in t)

  pub pasts_in_row : TreeRow → List Part
  pasts_in_row no_trees = []
  pasts_in_row (more_trees t ts) = pasts_in t ++ pasts_in_row ts

-- for each of the parts but one, once, its value now in place of its value before
abbrev pub present_swaps : Part → List Part → List (Tree × Tree)
present_swaps p [] = []
present_swaps p (q ∷ qs) = if same_part p q || list_any (same_part q) qs then present_swaps p qs else (past_of q, now_of q) ∷ present_swaps p qs

-- at a rise of the part it is 0 before and 1 now, and at a fall the other way; every other value before is the value now
abbrev pub edge_swaps : Bool → Part → Tree → List (Tree × Tree)
edge_swaps rise p c = (past_of p, bit_of (not rise)) ∷ (now_of p, bit_of rise) ∷ present_swaps p (pasts_in c)

-- the whole condition at a rise or fall of a part
unfoldable pub gate_of : Bool → Part → Tree → Tree
gate_of rise p c = swapped (edge_swaps rise p c) c

-- the trigger of a rise or fall, which is left out where its gate is the constant 0
abbrev pub trigger_at : Tree → Part → Bool → List TriggerTree
trigger_at c p rise = if is_bit 0 (gate_of rise p c) then [] else (record { rise = rise; part = p; gate = gate_of rise p c }) ∷ []

-- the rise of each part, then its fall
abbrev pub triggers_at : Tree → List Part → List TriggerTree
triggers_at c [] = []
triggers_at c (p ∷ ps) = trigger_at c p true ++ (trigger_at c p false ++ triggers_at c ps)

-- whether a part is of a lower argument, or of the same and not from a higher bit
abbrev pub comes_first : Part → Part → Bool
comes_first p q = nat_lt p.arg q.arg || (nat_eq p.arg q.arg && nat_le p.lo q.lo)

-- the parts with one more in its place
abbrev pub with_part : Part → List Part → List Part
with_part p [] = p ∷ []
with_part p (q ∷ qs) = if comes_first p q then p ∷ q ∷ qs else q ∷ with_part p qs

-- the parts in order of argument, then of lowest bit
abbrev pub in_order : List Part → List Part
in_order [] = []
in_order (p ∷ ps) = with_part p (in_order ps)

-- the triggers of a condition: for each part that can show, in order
unfoldable pub triggers_of : List Part → Tree → List TriggerTree
triggers_of waited c = triggers_at c (in_order (showing_parts waited (atoms_of (edge_part c))))

-- the trigger's part makes its change, and the gate is 1
pub record Fires (past now : Valuation) (t : TriggerTree) : Type 0 where
  pub before : past t.part ≡ bit_value (not t.rise)
  pub after : now t.part ≡ bit_value t.rise
  pub gate : mean now now t.gate ≡ bit_value true

-- some trigger of the list fires
abbrev pub SomeFires : Valuation → Valuation → List TriggerTree → Type 0
SomeFires past now [] = ⊥
SomeFires past now (t ∷ ts) = Fires past now t ⊎ SomeFires past now ts

-- each trigger's part has one value before and now
abbrev pub NoneChanges : Valuation → Valuation → List TriggerTree → Type 0
NoneChanges past now [] = Unit {0}
NoneChanges past now (t ∷ ts) = (past t.part ≡ now t.part) × NoneChanges past now ts

-- each trigger's part is of one bit, which is waited on
abbrev pub AreWaited : List Part → List TriggerTree → Type 0
AreWaited waited [] = Unit {0}
AreWaited waited (t ∷ ts) = (t.part.ty ≡ int_type 1) × (covers waited t.part ≡ true) × AreWaited waited ts

-- a drive whose condition is edge-shown: the part that is driven, the value and the delay, and when
pub record EdgeRowTree : Type 0 where
  pub part : Part
  pub value : Tree
  pub delay : Tree
  pub triggers : List TriggerTree
