-- Each reason and each shape, of small rows.
use Rattle.std.proofs.Common.{◌≡◌, ℕ, List, [], ◌∷◌, true, false, Some, None, refl}
use Rattle.lh_types.specs.Types.{int_type}
use Rattle.lh_types.specs.Values.{time_value}
use Rattle.lh_types.specs.Apply.{apply}
use Rattle.lh_types.specs.ApplyInt.{integer_row, row_width}
use Rattle.lh_types.specs.declared.op.Op.TheVariants.{Not, And, Or, Neq}
use Rattle.lh_unit_names.specs.declared.name.UnitName.{UnitName}
use Rattle.lh_term.specs.Tree.{Tree, constant, past_of, now_of}
use Rattle.lh_term.specs.Make.{bit_of, make_operation}
use Rattle.lh_term.specs.declared.part.Part.{Part}
use Rattle.lh_edge.specs.Atoms.{edge_part, atoms_of}
use Rattle.lh_edge.specs.Shown.{has_too_many_atoms, is_edge_shown}
use Rattle.lh_edge.specs.Triggers.{gate_of, triggers_of}
use Rattle.lh_flat.specs.Flat.{refused, recursive_call, call_too_deep, flat_too_large}
use Rattle.lh_region_def.specs.Known.{nothing_known}
use Rattle.lh_region_def.specs.Rows.{Drive, Way, halts, enters_head, waits, RegionEnd, Rows}
use Rattle.lh_region_def.specs.Regions.{Regions, no_regions, head_phi, too_many_turns, region_too_large}
use Rattle.lh_shape.specs.declared.reason.Reason.TheVariants as reason
use Rattle.lh_shape.specs.Shapes.{comb, edge, once, left, shape_by_rows, shape_by_regions, shape_by_text}

-- arguments of one bit
abbrev bit : ℕ → Part
bit k = record { arg = k; lo = 0; ty = int_type 1 }

abbrev at_once : Tree
at_once = constant (time_value (record { fs = 0; delta = 1; eps = 0 }))

-- a drive of argument 2
abbrev driven : (cond value delay : Tree) → Drive
driven c v d = record { cond = c; part = bit 2; value = v; delay = d }

abbrev ends_so : Tree → Way → RegionEnd
ends_so c w = record { cond = c; way = w; from = []; known = nothing_known }

abbrev rows_of : List Part → List Drive → List Tree → List RegionEnd → Rows
rows_of ps ds ts es = record { probes = ps; drives = ds; asserts = ts; ends = es }

-- rows that wait for the head on argument 0
abbrev looping : List Part → List Drive → List Tree → Regions
looping ps ds ts = record { first = rows_of ps ds ts (ends_so (bit_of true) (waits 0 true (bit 0 ∷ []) false) ∷ []); second = None }

-- rows that wait for another block on argument 0, and then drive
abbrev clocked : List Drive → List Drive → List RegionEnd → Regions
clocked before after es = record {
  first = rows_of (bit 0 ∷ []) before [] (ends_so (bit_of true) (waits 1 false (bit 0 ∷ []) false) ∷ []);
  second = Some (rows_of (bit 0 ∷ []) after [] es);
}

abbrev at_head : List RegionEnd
at_head = ends_so (bit_of true) enters_head ∷ []

abbrev rises : ℕ → Tree
rises k = make_operation And (make_operation Neq (past_of (bit k) ∷ now_of (bit k) ∷ []) ∷ now_of (bit k) ∷ [])

-- ---- no text, no rows

calls_itself : (f : UnitName) → shape_by_text (refused (recursive_call f)) ≡ left reason.RecursiveCall
calls_itself f = refl

calls_too_deep : shape_by_text (refused call_too_deep) ≡ left reason.CallTooDeep
calls_too_deep = refl

too_large : shape_by_text (refused flat_too_large) ≡ left reason.FlatTooLarge
too_large = refl

begins_with_a_phi : shape_by_regions (no_regions head_phi) ≡ left reason.HeadPhi
begins_with_a_phi = refl

turns_too_often : shape_by_regions (no_regions too_many_turns) ≡ left reason.TooManyTurns
turns_too_often = refl

rows_too_large : shape_by_regions (no_regions region_too_large) ≡ left reason.RegionTooLarge
rows_too_large = refl

-- ---- reasons of rows

halts_later : shape_by_rows (record { first = rows_of (bit 0 ∷ []) [] [] (ends_so (bit_of true) halts ∷ []); second = None }) ≡ left reason.Halts
halts_later = refl

asserts_something : shape_by_rows (looping (bit 0 ∷ []) [] (now_of (bit 0) ∷ [])) ≡ left reason.Asserts
asserts_something = refl

waits_for_a_time : shape_by_rows (record { first = rows_of [] [] [] (ends_so (bit_of true) (waits 0 true (bit 0 ∷ []) true) ∷ []); second = None }) ≡ left reason.TimedWait
waits_for_a_time = refl

-- on one bit or on another
waits_so_or_so : shape_by_rows (record {
  first = rows_of (bit 0 ∷ []) [] []
      (ends_so (now_of (bit 0)) (waits 0 true (bit 0 ∷ []) false) ∷ ends_so (make_operation Not (now_of (bit 0) ∷ [])) (waits 0 true (bit 1 ∷ []) false) ∷ []);
  second = None;
}) ≡ left reason.MixedWaits
unfolding apply integer_row row_width
waits_so_or_so = refl

probes_another : shape_by_rows (looping (bit 1 ∷ []) [] []) ≡ left reason.NotSensitive
probes_another = refl

delays_by_a_signal : shape_by_rows (looping (bit 0 ∷ []) (driven (bit_of true) (now_of (bit 0)) (now_of (bit 0)) ∷ []) []) ≡ left reason.DelayNotConstant
delays_by_a_signal = refl

drives_first : shape_by_rows (clocked (driven (bit_of true) (now_of (bit 0)) at_once ∷ []) [] at_head) ≡ left reason.DrivesBeforeWait
drives_first = refl

waits_again : shape_by_rows (clocked [] [] (ends_so (bit_of true) (waits 1 false (bit 0 ∷ []) false) ∷ [])) ≡ left reason.WaitsTwice
waits_again = refl

drives_a_value_before : shape_by_rows (clocked [] (driven (rises 0) (past_of (bit 1)) at_once ∷ []) at_head) ≡ left reason.PastValueDriven
unfolding apply integer_row row_width
drives_a_value_before = refl

-- seven bits, before and now
abbrev some_bit : Tree
some_bit = make_operation Or (make_operation Or (make_operation Or (past_of (bit 0) ∷ past_of (bit 1) ∷ []) ∷ make_operation Or (past_of (bit 2) ∷ past_of (bit 3) ∷ []) ∷ [])
    ∷ make_operation Or (make_operation Or (past_of (bit 4) ∷ past_of (bit 5) ∷ []) ∷ past_of (bit 6) ∷ []) ∷ [])

looks_at_too_many : shape_by_rows (clocked [] (driven some_bit (now_of (bit 1)) at_once ∷ []) at_head) ≡ left reason.TooManyAtoms
unfolding has_too_many_atoms edge_part atoms_of apply integer_row row_width
looks_at_too_many = refl

shows_no_edge : shape_by_rows (clocked [] (driven (now_of (bit 0)) (now_of (bit 1)) at_once ∷ []) at_head) ≡ left reason.NoEdge
unfolding has_too_many_atoms is_edge_shown edge_part atoms_of
shows_no_edge = refl

-- ---- shapes

-- two drives that follow each other become one
follows_an_input : shape_by_rows (looping (bit 0 ∷ []) (driven (bit_of true) (bit_of false) at_once ∷ driven (now_of (bit 0)) (bit_of true) at_once ∷ []) [])
    ≡ comb (bit 0 ∷ []) (driven (bit_of true) (now_of (bit 0)) at_once ∷ [])
unfolding apply integer_row row_width
follows_an_input = refl

loads_at_a_rise : shape_by_rows (clocked [] (driven (rises 0) (now_of (bit 1)) at_once ∷ []) at_head)
    ≡ edge (record { part = bit 2; value = now_of (bit 1); delay = at_once; triggers = record { rise = true; part = bit 0; gate = bit_of true } ∷ [] } ∷ [])
unfolding has_too_many_atoms is_edge_shown triggers_of edge_part atoms_of gate_of apply integer_row row_width
loads_at_a_rise = refl

drives_once : shape_by_rows (record { first = rows_of [] (driven (bit_of true) (bit_of true) at_once ∷ []) [] (ends_so (bit_of true) halts ∷ []); second = None })
    ≡ once (driven (bit_of true) (bit_of true) at_once ∷ [])
drives_once = refl
