-- What `edges` answers.
use Rattle.std.specs.Prelude.{◌≡◌, Bool, true, false, List, [], ◌∷◌, ◌++◌, Result, Ok, Err}
use Rattle.lh_term.specs.declared.part.Part.{Part}
use Rattle.lh_term.specs.declared.term.TermNode.{TermNode}
use Rattle.lh_term.specs.Tree.{Tree}
use Rattle.lh_term.specs.Arena.{StandsForTree}
use Rattle.lh_edge.specs.Shown.{has_too_many_atoms, is_edge_shown}
use Rattle.lh_edge.specs.Triggers.{TriggerTree, triggers_of}
use Rattle.lh_edge.specs.declared.triggers.Trigger.{Trigger}
use Rattle.lh_edge.specs.declared.triggers.EdgeFault.{EdgeFault}
use Rattle.lh_edge.specs.declared.triggers.EdgeFault.TheVariants.{TooManyAtoms, NoEdge, OutOfMemory}

-- the trigger is that one, by ids
pub record IsTrigger (ns : List TermNode) (t : Trigger) (x : TriggerTree) : Type 0 where
  pub rise : t.rise ≡ x.rise
  pub part : t.part ≡ x.part
  pub gate : StandsForTree ns t.gate x.gate

-- the triggers are those, one by one
abbrev pub AreTriggers : List TermNode → List Trigger → List TriggerTree → Type 0
AreTriggers ns [] [] = Unit {0}
AreTriggers ns (t ∷ ts) (x ∷ xs) = IsTrigger ns t x × AreTriggers ns ts xs
AreTriggers ns _ _ = ⊥

-- triggers were added that stand for those
pub record AddsTrigger (ns : List TermNode) (old : List Trigger) (xs : List TriggerTree) (new : List Trigger) : Type 0 where
  pub more : List Trigger
  pub added : new ≡ old ++ more
  pub are : AreTriggers ns more xs

-- the triggers of the condition, where it is edge-shown and its edge part has at most twelve atoms
pub record GivesTriggers (ns : List TermNode) (waited : List Part) (c : Tree) (ts : List Trigger) : Type 0 where
  pub few : has_too_many_atoms c ≡ false
  pub shown : is_edge_shown waited c ≡ true
  pub triggers : AreTriggers ns ts (triggers_of waited c)

-- the triggers, where the check of all valuations gives true; or no edge, where it gives false
abbrev pub ShownOrNot : List TermNode → Bool → List TriggerTree → Result (List Trigger) EdgeFault → Type 0
ShownOrNot ns b xs (Ok ts) = (b ≡ true) × AreTriggers ns ts xs
ShownOrNot ns b xs (Err TooManyAtoms) = ⊥
ShownOrNot ns b xs (Err NoEdge) = b ≡ false
ShownOrNot ns b xs (Err OutOfMemory) = Unit {0}

-- the triggers; or the first fault: too many atoms, else no edge
abbrev pub TriggersOrFault : List TermNode → List Part → Tree → Result (List Trigger) EdgeFault → Type 0
TriggersOrFault ns waited c (Ok ts) = GivesTriggers ns waited c ts
TriggersOrFault ns waited c (Err TooManyAtoms) = has_too_many_atoms c ≡ true
TriggersOrFault ns waited c (Err NoEdge) = (has_too_many_atoms c ≡ false) × (is_edge_shown waited c ≡ false)
TriggersOrFault ns waited c (Err OutOfMemory) = Unit {0}
