-- The laws of edge-shown conditions.
use Rattle.std.specs.Prelude.{◌≡◌, ◌↔◌, true, false, List}
use Rattle.lh_types.specs.Types.{int_type}
use Rattle.lh_types.specs.Apply.{bit_value}
use Rattle.lh_term.specs.declared.part.Part.{Part}
use Rattle.lh_term.specs.Tree.{Tree}
use Rattle.lh_term.specs.Types.{IsTyped, type_of}
use Rattle.lh_term.specs.Mean.{Valuation, IsFitting, mean}
use Rattle.lh_edge.specs.Shown.{is_edge_shown, IsEdgeShown}
use Rattle.lh_edge.specs.Triggers.{triggers_of, SomeFires, NoneChanges, AreWaited}

-- what holds of the valuations of the atoms holds of all functions that give bits to terms
abbrev pub ValuationsTellAll : Type 0
ValuationsTellAll = (waited : List Part) (c : Tree) → (is_edge_shown waited c ≡ true) ↔ IsEdgeShown waited c

-- an edge-shown condition is 1 exactly where some trigger fires
abbrev pub TriggersShow : Type 0
TriggersShow = (waited : List Part) (c : Tree) → IsTyped c → type_of c ≡ int_type 1 → is_edge_shown waited c ≡ true →
    (past now : Valuation) → IsFitting past → IsFitting now → (mean past now c ≡ bit_value true) ↔ SomeFires past now (triggers_of waited c)

-- an edge-shown condition is 0 where no trigger's part changes
abbrev pub RestsWithoutChange : Type 0
RestsWithoutChange = (waited : List Part) (c : Tree) → IsTyped c → type_of c ≡ int_type 1 → is_edge_shown waited c ≡ true →
    (past now : Valuation) → IsFitting past → IsFitting now → NoneChanges past now (triggers_of waited c) → mean past now c ≡ bit_value false

-- the part of each trigger is of one bit, which is waited on
abbrev pub TriggersAreWaited : Type 0
TriggersAreWaited = (waited : List Part) (c : Tree) → AreWaited waited (triggers_of waited c)
