-- What small modules are lowered to is as computed.
use Rattle.std.proofs.Common.{refl}
use Rattle.std.specs.Fmt.{digits}
use Rattle.lh_types.specs.Apply.{apply}
use Rattle.lh_types.specs.ApplyInt.{integer_row, row_width}
use Rattle.lh_flat.specs.Flat.{flat_in}
use Rattle.lh_region_def.specs.Regions.{region_from}
use Rattle.lh_edge.specs.Atoms.{edge_part, atoms_of}
use Rattle.lh_edge.specs.Shown.{has_too_many_atoms, is_edge_shown}
use Rattle.lh_edge.specs.Triggers.{gate_of, triggers_of}
use Rattle.lh_lower_def.specs.Worked.{NothingLowers, AccumulatorLowers, AccumulatorReport, CombAlone, CombInsensitive, EarlyProbe, NoEdge, ResetLowers, ConstantLowers, ConstantRepeats, DrivesStayApart, EndlessStays, RecursionStays, DeepCallsStay, CallsLower, PartIsReached, OnceLowers, ProbesHalts, AssertsHalts, TwoWaitsLower, TwoWaitsDiffer, RemembersLowers, NotOneStays, DeepChoiceLowers, DeeperChoiceStays, WorkedLowerings}
use Rattle.lh_lower_def.proofs.DeepCalls.{deep-calls-lower}

nothing_lowers : NothingLowers
unfolding flat_in region_from apply integer_row row_width digits has_too_many_atoms is_edge_shown triggers_of edge_part atoms_of gate_of
nothing_lowers = (refl, refl)

accumulator_lowers : AccumulatorLowers
unfolding flat_in region_from apply integer_row row_width digits has_too_many_atoms is_edge_shown triggers_of edge_part atoms_of gate_of
accumulator_lowers = (refl, refl)

accumulator_report : AccumulatorReport
unfolding flat_in region_from apply integer_row row_width digits has_too_many_atoms is_edge_shown triggers_of edge_part atoms_of gate_of
accumulator_report = refl

comb_alone : CombAlone
unfolding flat_in region_from apply integer_row row_width digits has_too_many_atoms is_edge_shown triggers_of edge_part atoms_of gate_of
comb_alone = (refl, refl)

comb_insensitive : CombInsensitive
unfolding flat_in region_from apply integer_row row_width digits has_too_many_atoms is_edge_shown triggers_of edge_part atoms_of gate_of
comb_insensitive = (refl, refl)

early_probe : EarlyProbe
unfolding flat_in region_from apply integer_row row_width digits has_too_many_atoms is_edge_shown triggers_of edge_part atoms_of gate_of
early_probe = (refl, refl)

no_edge : NoEdge
unfolding flat_in region_from apply integer_row row_width digits has_too_many_atoms is_edge_shown triggers_of edge_part atoms_of gate_of
no_edge = (refl, refl)

reset_lowers : ResetLowers
unfolding flat_in region_from apply integer_row row_width digits has_too_many_atoms is_edge_shown triggers_of edge_part atoms_of gate_of
reset_lowers = (refl, refl)

constant_lowers : ConstantLowers
unfolding flat_in region_from apply integer_row row_width digits has_too_many_atoms is_edge_shown triggers_of edge_part atoms_of gate_of
constant_lowers = (refl, refl)

constant_repeats : ConstantRepeats
unfolding flat_in region_from apply integer_row row_width digits has_too_many_atoms is_edge_shown triggers_of edge_part atoms_of gate_of
constant_repeats = (refl, refl)

drives_stay_apart : DrivesStayApart
unfolding flat_in region_from apply integer_row row_width digits has_too_many_atoms is_edge_shown triggers_of edge_part atoms_of gate_of
drives_stay_apart = (refl, refl)

endless_stays : EndlessStays
unfolding flat_in region_from apply integer_row row_width digits has_too_many_atoms is_edge_shown triggers_of edge_part atoms_of gate_of
endless_stays = (refl, refl)

recursion_stays : RecursionStays
unfolding flat_in region_from apply integer_row row_width digits has_too_many_atoms is_edge_shown triggers_of edge_part atoms_of gate_of
recursion_stays = (refl, refl)

deep_calls_stay : DeepCallsStay
unfolding flat_in region_from apply integer_row row_width digits has_too_many_atoms is_edge_shown triggers_of edge_part atoms_of gate_of
deep_calls_stay = (refl, refl)

calls_lower : CallsLower
unfolding flat_in region_from apply integer_row row_width digits has_too_many_atoms is_edge_shown triggers_of edge_part atoms_of gate_of
calls_lower = (refl, refl)

part_is_reached : PartIsReached
unfolding flat_in region_from apply integer_row row_width digits has_too_many_atoms is_edge_shown triggers_of edge_part atoms_of gate_of
part_is_reached = (refl, refl)

once_lowers : OnceLowers
unfolding flat_in region_from apply integer_row row_width digits has_too_many_atoms is_edge_shown triggers_of edge_part atoms_of gate_of
once_lowers = (refl, refl)

probes_halts : ProbesHalts
unfolding flat_in region_from apply integer_row row_width digits has_too_many_atoms is_edge_shown triggers_of edge_part atoms_of gate_of
probes_halts = (refl, refl)

asserts_halts : AssertsHalts
unfolding flat_in region_from apply integer_row row_width digits has_too_many_atoms is_edge_shown triggers_of edge_part atoms_of gate_of
asserts_halts = (refl, refl)

two_waits_lower : TwoWaitsLower
unfolding flat_in region_from apply integer_row row_width digits has_too_many_atoms is_edge_shown triggers_of edge_part atoms_of gate_of
two_waits_lower = (refl, refl)

two_waits_differ : TwoWaitsDiffer
unfolding flat_in region_from apply integer_row row_width digits has_too_many_atoms is_edge_shown triggers_of edge_part atoms_of gate_of
two_waits_differ = (refl, refl)

remembers_lowers : RemembersLowers
unfolding flat_in region_from apply integer_row row_width digits has_too_many_atoms is_edge_shown triggers_of edge_part atoms_of gate_of
remembers_lowers = (refl, refl)

not_one_stays : NotOneStays
unfolding flat_in region_from apply integer_row row_width digits has_too_many_atoms is_edge_shown triggers_of edge_part atoms_of gate_of
not_one_stays = (refl, refl)

deep_choice_lowers : DeepChoiceLowers
unfolding flat_in region_from apply integer_row row_width digits has_too_many_atoms is_edge_shown triggers_of edge_part atoms_of gate_of
deep_choice_lowers = refl

deeper_choice_stays : DeeperChoiceStays
unfolding flat_in region_from apply integer_row row_width digits has_too_many_atoms is_edge_shown triggers_of edge_part atoms_of gate_of
deeper_choice_stays = (refl, refl)

pub worked : WorkedLowerings
worked = record {
  nothing_lowers = nothing_lowers;
  accumulator_lowers = accumulator_lowers;
  accumulator_report = accumulator_report;
  comb_alone = comb_alone;
  comb_insensitive = comb_insensitive;
  early_probe = early_probe;
  no_edge = no_edge;
  reset_lowers = reset_lowers;
  constant_lowers = constant_lowers;
  constant_repeats = constant_repeats;
  drives_stay_apart = drives_stay_apart;
  endless_stays = endless_stays;
  recursion_stays = recursion_stays;
  deep_calls_lower = deep-calls-lower;
  deep_calls_stay = deep_calls_stay;
  calls_lower = calls_lower;
  part_is_reached = part_is_reached;
  once_lowers = once_lowers;
  probes_halts = probes_halts;
  asserts_halts = asserts_halts;
  two_waits_lower = two_waits_lower;
  two_waits_differ = two_waits_differ;
  remembers_lowers = remembers_lowers;
  not_one_stays = not_one_stays;
  deep_choice_lowers = deep_choice_lowers;
  deeper_choice_stays = deeper_choice_stays;
}
