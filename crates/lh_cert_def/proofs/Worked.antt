-- What is said of small modules is as computed.
use Rattle.std.proofs.Common.{◌≡◌, List, [], ◌∷◌, true, false, refl, sym, ap, Some, None}
use Rattle.std.specs.Fmt.{digits}
use Rattle.lh_types.specs.Apply.{apply}
use Rattle.lh_types.specs.ApplyInt.{integer_row, row_width}
use Rattle.lh_types.proofs.Tests.{not_both}
use Rattle.lh_unit.specs.declared.inst.UnitKind.TheVariants as kind
use Rattle.lh_unit.specs.Contents.{UnitText, ItemText, unit_text, declare_text}
use Rattle.lh_unit.specs.Hierarchy.{lines_of}
use Rattle.lh_flat.specs.Flat.{flat_in}
use Rattle.lh_region_def.specs.Regions.{region_from}
use Rattle.lh_edge.specs.Atoms.{edge_part, atoms_of}
use Rattle.lh_edge.specs.Shown.{has_too_many_atoms, is_edge_shown}
use Rattle.lh_edge.specs.Triggers.{gate_of, triggers_of}
use Rattle.lh_shape.specs.Reasons.{is_empty}
use Rattle.lh_lower_def.specs.Modules.{entity, acc_tb, acc, acc_ff, acc_ff_early, acc_comb_args, acc_comb, acc_tb_initial, acc_tb_check, ffr, five, al, sets}
use Rattle.lh_lower_def.specs.Worked.{acc_ff_lowered, acc_comb_lowered, all_waited, drives_once}
use Rattle.lh_cert_agree.specs.Agreeing.{agree}
use Rattle.lh_cert_rows.specs.Reading.{read}
use Rattle.lh_cert_def.specs.Headers.{same_header, is_replaced}
use Rattle.lh_cert_def.specs.Causes.{CauseOf, replaced, kept, other_header, changed, none_left, only_first, here, later, entity_cause}
use Rattle.lh_cert_def.specs.Worked as edits
use Rattle.lh_cert_def.specs.Worked.{MayReplace, HasCause, AsLowered, OtherArguments, OneUnitLess, OtherContents, WorkedCauses}
use Rattle.lh_cert_def.specs.declared.cause.Cause.{Cause}
use Rattle.lh_cert_def.specs.declared.cause.Cause.TheVariants as cause

-- the unit that an item defines
abbrev unit_in : ItemText → UnitText
unit_in (unit_text u) = u
unit_in (declare_text d) = record { kind = kind.Proc; name = record { sigil = 64; name = [] }; args = []; result = None; blocks = [] }

yes : (x y : UnitText) → same_header x y ≡ true → is_replaced x y ≡ true → entity_cause (unit_text x ∷ []) x y ≡ None → MayReplace (unit_text x) (unit_text y)
yes x y h r e = later 0 x y [] [] None (replaced None h r e) (none_left 1)

no : (x y : UnitText) (c : Cause) → same_header x y ≡ true → is_replaced x y ≡ true → entity_cause (unit_text x ∷ []) x y ≡ Some c → HasCause (unit_text x) (unit_text y) c
no x y c h r e = here 0 x y [] [] c (replaced (Some c) h r e)

exchanged_choice : HasCause (acc_comb all_waited) edits.exchanged_choice cause.Drives
unfolding flat_in region_from apply integer_row row_width digits has_too_many_atoms is_edge_shown triggers_of edge_part atoms_of gate_of read agree
exchanged_choice = no (unit_in (acc_comb all_waited)) (unit_in edits.exchanged_choice) cause.Drives refl refl refl

two_drives : MayReplace (acc_comb all_waited) edits.two_drives
unfolding flat_in region_from apply integer_row row_width digits has_too_many_atoms is_edge_shown triggers_of edge_part atoms_of gate_of read agree
two_drives = yes (unit_in (acc_comb all_waited)) (unit_in edits.two_drives) refl refl refl

own_signal : HasCause (acc_comb all_waited) edits.own_signal cause.Form
unfolding flat_in region_from apply integer_row row_width digits has_too_many_atoms is_edge_shown triggers_of edge_part atoms_of gate_of read agree
own_signal = no (unit_in (acc_comb all_waited)) (unit_in edits.own_signal) cause.Form refl refl refl

both_for_rise : HasCause acc_ff edits.both_for_rise cause.Registers
unfolding flat_in region_from apply integer_row row_width digits has_too_many_atoms is_edge_shown triggers_of edge_part atoms_of gate_of read agree
both_for_rise = no (unit_in acc_ff) (unit_in edits.both_for_rise) cause.Registers refl refl refl

other_triggers : MayReplace acc_ff edits.other_triggers
unfolding flat_in region_from apply integer_row row_width digits has_too_many_atoms is_edge_shown triggers_of edge_part atoms_of gate_of read agree
other_triggers = yes (unit_in acc_ff) (unit_in edits.other_triggers) refl refl refl

drive_for_register : HasCause acc_ff edits.drive_for_register cause.Form
unfolding flat_in region_from apply integer_row row_width digits has_too_many_atoms is_edge_shown triggers_of edge_part atoms_of gate_of read agree
drive_for_register = no (unit_in acc_ff) (unit_in edits.drive_for_register) cause.Form refl refl refl

for_one_that_stays : HasCause acc_ff_early acc_ff_lowered cause.HasReason
unfolding flat_in region_from apply integer_row row_width digits has_too_many_atoms is_edge_shown triggers_of edge_part atoms_of gate_of read agree
for_one_that_stays = no (unit_in acc_ff_early) (unit_in acc_ff_lowered) cause.HasReason refl refl refl

other_gate : MayReplace ffr edits.other_gate
unfolding flat_in region_from apply integer_row row_width digits has_too_many_atoms is_edge_shown triggers_of edge_part atoms_of gate_of read agree
other_gate = yes (unit_in ffr) (unit_in edits.other_gate) refl refl refl

other_order : HasCause ffr edits.other_order cause.Registers
unfolding flat_in region_from apply integer_row row_width digits has_too_many_atoms is_edge_shown triggers_of edge_part atoms_of gate_of read agree
other_order = no (unit_in ffr) (unit_in edits.other_order) cause.Registers refl refl refl

not_probed : HasCause (five ("e" ∷ [])) edits.not_probed cause.Sensed
unfolding flat_in region_from apply integer_row row_width digits has_too_many_atoms is_edge_shown triggers_of edge_part atoms_of gate_of read agree
not_probed = no (unit_in (five ("e" ∷ []))) (unit_in edits.not_probed) cause.Sensed refl refl refl

in_order : MayReplace al edits.in_order
unfolding flat_in region_from apply integer_row row_width digits has_too_many_atoms is_edge_shown triggers_of edge_part atoms_of gate_of read agree
in_order = yes (unit_in al) (unit_in edits.in_order) refl refl refl

exchanged_drives : HasCause al edits.exchanged_drives cause.Drives
unfolding flat_in region_from apply integer_row row_width digits has_too_many_atoms is_edge_shown triggers_of edge_part atoms_of gate_of read agree
exchanged_drives = no (unit_in al) (unit_in edits.exchanged_drives) cause.Drives refl refl refl

as_once : MayReplace (sets "p" 1) (drives_once "p" 1)
unfolding flat_in region_from apply integer_row row_width digits has_too_many_atoms is_edge_shown triggers_of edge_part atoms_of gate_of read agree
as_once = yes (unit_in (sets "p" 1)) (unit_in (drives_once "p" 1)) refl refl refl

probes_once : HasCause (sets "p" 1) edits.probes_once cause.Sensed
unfolding flat_in region_from apply integer_row row_width digits has_too_many_atoms is_edge_shown triggers_of edge_part atoms_of gate_of read agree
probes_once = no (unit_in (sets "p" 1)) (unit_in edits.probes_once) cause.Sensed refl refl refl

abbrev accumulator : List ItemText
accumulator = acc_tb ∷ acc ∷ acc_ff ∷ acc_comb all_waited ∷ acc_tb_initial ∷ acc_tb_check ∷ []

unchanged : (items : List ItemText) (x : UnitText) → same_header x x ≡ true → is_replaced x x ≡ false → CauseOf items x x None
unchanged items x h r = kept h r refl

lowered_register : CauseOf accumulator (unit_in acc_ff) (unit_in acc_ff_lowered) None
unfolding flat_in region_from apply integer_row row_width digits has_too_many_atoms is_edge_shown triggers_of edge_part atoms_of gate_of read agree
lowered_register = replaced None refl refl refl

lowered_logic : CauseOf accumulator (unit_in (acc_comb all_waited)) (unit_in acc_comb_lowered) None
unfolding flat_in region_from apply integer_row row_width digits has_too_many_atoms is_edge_shown triggers_of edge_part atoms_of gate_of read agree
lowered_logic = replaced None refl refl refl

as_lowered : AsLowered
as_lowered = later 0 (unit_in acc_tb) (unit_in acc_tb) (unit_in acc ∷ unit_in acc_ff ∷ unit_in (acc_comb all_waited) ∷ unit_in acc_tb_initial ∷ unit_in acc_tb_check ∷ []) (unit_in acc ∷ unit_in acc_ff_lowered ∷ unit_in acc_comb_lowered ∷ unit_in acc_tb_initial ∷ unit_in acc_tb_check ∷ []) None (unchanged accumulator (unit_in acc_tb) refl refl)
    (later 1 (unit_in acc) (unit_in acc) (unit_in acc_ff ∷ unit_in (acc_comb all_waited) ∷ unit_in acc_tb_initial ∷ unit_in acc_tb_check ∷ []) (unit_in acc_ff_lowered ∷ unit_in acc_comb_lowered ∷ unit_in acc_tb_initial ∷ unit_in acc_tb_check ∷ []) None (unchanged accumulator (unit_in acc) refl refl)
    (later 2 (unit_in acc_ff) (unit_in acc_ff_lowered) (unit_in (acc_comb all_waited) ∷ unit_in acc_tb_initial ∷ unit_in acc_tb_check ∷ []) (unit_in acc_comb_lowered ∷ unit_in acc_tb_initial ∷ unit_in acc_tb_check ∷ []) None lowered_register
    (later 3 (unit_in (acc_comb all_waited)) (unit_in acc_comb_lowered) (unit_in acc_tb_initial ∷ unit_in acc_tb_check ∷ []) (unit_in acc_tb_initial ∷ unit_in acc_tb_check ∷ []) None lowered_logic
    (later 4 (unit_in acc_tb_initial) (unit_in acc_tb_initial) (unit_in acc_tb_check ∷ []) (unit_in acc_tb_check ∷ []) None (unchanged accumulator (unit_in acc_tb_initial) refl refl)
    (later 5 (unit_in acc_tb_check) (unit_in acc_tb_check) ([]) ([]) None (unchanged accumulator (unit_in acc_tb_check) refl refl)
    (none_left 6))))))

other_arguments : OtherArguments
other_arguments = later 0 (unit_in acc_tb) (unit_in acc_tb) (unit_in acc_ff ∷ []) (unit_in (entity "acc_ff" acc_comb_args []) ∷ []) (Some (1, cause.Units)) (unchanged (acc_tb ∷ acc_ff ∷ []) (unit_in acc_tb) refl refl)
    (here 1 (unit_in acc_ff) (unit_in (entity "acc_ff" acc_comb_args [])) [] [] cause.Units (other_header refl))

one_unit_less : OneUnitLess
one_unit_less = later 0 (unit_in acc_tb) (unit_in acc_tb) (unit_in acc_ff ∷ []) [] (Some (1, cause.Units)) (unchanged (acc_tb ∷ acc_ff ∷ []) (unit_in acc_tb) refl refl) (only_first 1 (unit_in acc_ff) [])

other_contents : OtherContents
other_contents = here 0 (unit_in acc_tb) (unit_in (entity "acc_tb" [] [])) [] [] cause.Changed
    (changed refl refl (λ e. let d : false ≡ true = ap (λ (u : UnitText). is_empty (lines_of u.blocks)) e in not_both true refl (sym d)))

pub worked : WorkedCauses
worked = record {
  as_lowered = as_lowered;
  other_arguments = other_arguments;
  one_unit_less = one_unit_less;
  other_contents = other_contents;
  exchanged_choice = exchanged_choice;
  two_drives = two_drives;
  own_signal = own_signal;
  both_for_rise = both_for_rise;
  other_triggers = other_triggers;
  drive_for_register = drive_for_register;
  for_one_that_stays = for_one_that_stays;
  other_gate = other_gate;
  other_order = other_order;
  not_probed = not_probed;
  in_order = in_order;
  exchanged_drives = exchanged_drives;
  as_once = as_once;
  probes_once = probes_once;
}
