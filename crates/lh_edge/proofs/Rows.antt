-- Conditions of flip-flops and their triggers, computed.
use Rattle.std.proofs.Common.{◌≡◌, ℕ, Bool, true, false, [], ◌∷◌, refl}
use Rattle.lh_types.specs.Types.{int_type}
use Rattle.lh_types.specs.declared.op.Op.TheVariants.{Or, Neq}
use Rattle.lh_types.specs.Apply.{apply}
use Rattle.lh_types.specs.ApplyInt.{integer_row, row_width}
use Rattle.lh_types.specs.Types.{array_type}
use Rattle.lh_term.specs.declared.part.Part.{Part}
use Rattle.lh_term.specs.Tree.{Tree, past_of, now_of}
use Rattle.lh_term.specs.Make.{bit_of, make_operation, negation, both}
use Rattle.lh_edge.specs.Atoms.{edge_part, atoms_of}
use Rattle.lh_edge.specs.Shown.{is_edge_shown, has_too_many_atoms}
use Rattle.lh_edge.specs.Triggers.{TriggerTree, gate_of, triggers_of}

-- arguments of one bit
abbrev argument : ℕ → Part
argument k = record { arg = k; lo = 0; ty = int_type 1 }

abbrev before : ℕ → Tree
before k = past_of (argument k)

abbrev after : ℕ → Tree
after k = now_of (argument k)

abbrev either : Tree → Tree → Tree
either x y = make_operation Or (x ∷ y ∷ [])

abbrev changed : ℕ → Tree
changed k = make_operation Neq (before k ∷ after k ∷ [])

abbrev rises : ℕ → Tree
rises k = both (changed k) (after k)

abbrev trigger : Bool → ℕ → Tree → TriggerTree
trigger rise k gate = record { rise = rise; part = argument k; gate = gate }

-- changed and now 1: one rise, with no gate
rising_edge : is_edge_shown (argument 0 ∷ []) (rises 0) ≡ true
unfolding is_edge_shown edge_part atoms_of
rising_edge = refl

rising_triggers : triggers_of (argument 0 ∷ []) (rises 0) ≡ trigger true 0 (bit_of true) ∷ []
unfolding triggers_of edge_part atoms_of gate_of apply integer_row row_width
rising_triggers = refl

-- changed: both edges
both_edges : is_edge_shown (argument 0 ∷ []) (changed 0) ≡ true
unfolding is_edge_shown edge_part atoms_of
both_edges = refl

both_triggers : triggers_of (argument 0 ∷ []) (changed 0) ≡ trigger true 0 (bit_of true) ∷ trigger false 0 (bit_of true) ∷ []
unfolding triggers_of edge_part atoms_of gate_of apply integer_row row_width
both_triggers = refl

-- ---- a reset that does not wait for the clock

abbrev falls : ℕ → Tree
falls k = both (changed k) (negation (after k))

abbrev event : Tree
event = either (rises 0) (falls 1)

reset_edge : is_edge_shown (argument 0 ∷ argument 1 ∷ []) (both event (negation (after 1))) ≡ true
unfolding is_edge_shown edge_part atoms_of
reset_edge = refl

-- at the clock it is reset where the reset is 0, and at the reset's fall in any case
reset_triggers : triggers_of (argument 0 ∷ argument 1 ∷ []) (both event (negation (after 1))) ≡ trigger true 0 (negation (after 1)) ∷ trigger false 1 (bit_of true) ∷ []
unfolding triggers_of edge_part atoms_of gate_of apply integer_row row_width
reset_triggers = refl

load_edge : is_edge_shown (argument 0 ∷ argument 1 ∷ []) (both event (after 1)) ≡ true
unfolding is_edge_shown edge_part atoms_of
load_edge = refl

load_triggers : triggers_of (argument 0 ∷ argument 1 ∷ []) (both event (after 1)) ≡ trigger true 0 (after 1) ∷ []
unfolding triggers_of edge_part atoms_of gate_of apply integer_row row_width
load_triggers = refl

-- ---- what no edge shows

-- a value before that gates the edge
gated_by_the_past : is_edge_shown (argument 0 ∷ []) (both (changed 0) (before 2)) ≡ false
unfolding is_edge_shown edge_part atoms_of
gated_by_the_past = refl

-- the edge part has only what contains a value before, and that is true where nothing changes
now_stands_alone : is_edge_shown (argument 0 ∷ []) (both (negation (before 0)) (after 0)) ≡ false
unfolding is_edge_shown edge_part atoms_of
now_stands_alone = refl

not_waited_on : is_edge_shown (argument 1 ∷ []) (rises 0) ≡ false
unfolding is_edge_shown edge_part atoms_of
not_waited_on = refl

without_a_past : is_edge_shown (argument 0 ∷ []) (after 0) ≡ false
unfolding is_edge_shown edge_part atoms_of
without_a_past = refl

-- the same bit as an array of one element: its values are compared, and are no atoms
abbrev wrapped : Part
wrapped = record { arg = 0; lo = 0; ty = array_type 1 (int_type 1) }

compared_as_an_array : is_edge_shown (argument 0 ∷ []) (make_operation Neq (past_of wrapped ∷ now_of wrapped ∷ [])) ≡ false
unfolding is_edge_shown edge_part atoms_of
compared_as_an_array = refl

-- ---- an edge part that is 0 is edge-shown, without triggers

abbrev never : Tree
never = both (both (before 0) (after 1)) (negation (before 0))

never_part : edge_part never ≡ bit_of false
unfolding edge_part
never_part = refl

never_edge : is_edge_shown (argument 0 ∷ []) never ≡ true
unfolding is_edge_shown edge_part atoms_of
never_edge = refl

never_triggers : triggers_of (argument 0 ∷ []) never ≡ []
unfolding triggers_of edge_part atoms_of
never_triggers = refl

-- ---- twelve atoms and fourteen

abbrev six : Tree
six = either (either (either (before 0) (before 1)) (either (before 2) (before 3))) (either (before 4) (before 5))

twelve_atoms : has_too_many_atoms six ≡ false
unfolding has_too_many_atoms edge_part atoms_of
twelve_atoms = refl

fourteen_atoms : has_too_many_atoms (either six (before 6)) ≡ true
unfolding has_too_many_atoms edge_part atoms_of
fourteen_atoms = refl
