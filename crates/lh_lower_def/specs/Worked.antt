-- What small modules are lowered to, and what is reported of them.
use Rattle.std.specs.Prelude.{◌≡◌, ℕ, List, [], ◌∷◌, ◌++◌, Some, None, codes}
use Prim.Native.String.{String}
use Rattle.lh_types.specs.Types.{void_type}
use Rattle.lh_types.specs.declared.op.Op.TheVariants as op
use Rattle.lh_unit.specs.declared.inst.Declare.TheVariants as declare
use Rattle.lh_unit.specs.declared.inst.Mode.TheVariants.{Rise, Fall}
use Rattle.lh_unit.specs.Contents.{ItemText, declare_text}
use Rattle.lh_shape.specs.declared.reason.Reason.{Reason}
use Rattle.lh_shape.specs.declared.reason.Reason.TheVariants as reason
use Rattle.lh_lower_def.specs.declared.report.Kind.{Kind}
use Rattle.lh_lower_def.specs.declared.report.Kind.TheVariants as kind
use Rattle.lh_lower_def.specs.declared.report.Verdict.TheVariants as verdict
use Rattle.lh_lower_def.specs.Report.{RowText, report_text}
use Rattle.lh_lower_def.specs.Lowering.{lowered, report}
use Rattle.lh_lower_def.specs.Modules.{bit, byte, word, global, gives, does, number, delay, two, one, probe, drive, drive_if, output, entity, trigger, register, acc_tb, acc, acc_ff_args, acc_ff, acc_ff_early, acc_ff_enabled, acc_comb_args, acc_comb, acc_tb_initial, acc_tb_check, ffr_args, ffr, five_args, five, al_args, al, endless, recursive, caller, chain, increment, calls_twice_args, calls_twice, half, low_half, drives_half_args, drives_half, sets, sets_and_probes, fails, both_set, two_waits_args, two_waits, remembers_args, remembers, changed_to_one, not_one_before, chooser, nested}

-- rows of a report
abbrev pub lowered_row : String → Kind → RowText
lowered_row n k = record { unit = global n; verdict = verdict.Lowered k }

abbrev pub left_row : String → Reason → RowText
left_row n r = record { unit = global n; verdict = verdict.Left r }

-- a module is lowered to another, with this report
abbrev pub Lowers : (from to : List ItemText) → List RowText → Type 0
Lowers m to rows = (lowered m ≡ to) × (report m ≡ rows)

-- each process of a module stays, and so does all else
abbrev pub Stays : List ItemText → List RowText → Type 0
Stays m rows = Lowers m m rows

-- ---- nothing

abbrev pub NothingLowers : Type 0
NothingLowers = Lowers [] [] []

-- ---- an accumulator with its testbench: the condition that the clock changed and is 1 has one trigger, and two drives become a choice

abbrev pub acc_ff_lowered : ItemText
acc_ff_lowered = entity "acc_ff" acc_ff_args (
    gives "v0" (probe word "d")
    ∷ gives "v1" (probe bit "clk")
    ∷ gives "v2" (delay 0 1)
    ∷ register word "q" (trigger "v0" Rise "v1" None "v2" ∷ [])
    ∷ [])

abbrev pub acc_comb_lowered : ItemText
acc_comb_lowered = entity "acc_comb" acc_comb_args (
    gives "v0" (probe word "q")
    ∷ gives "v1" (probe word "x")
    ∷ gives "v2" (probe bit "en")
    ∷ gives "v3" (two op.Add word "v0" "v1")
    ∷ gives "v4" (two op.Array word "v0" "v3")
    ∷ gives "v5" (two op.Mux word "v4" "v2")
    ∷ gives "v6" (delay 0 1)
    ∷ does (drive word "d" "v5" "v6")
    ∷ [])

abbrev pub all_waited : List String
all_waited = "q" ∷ "x" ∷ "en" ∷ []

abbrev pub AccumulatorLowers : Type 0
AccumulatorLowers = Lowers
    (acc_tb ∷ acc ∷ acc_ff ∷ acc_comb all_waited ∷ acc_tb_initial ∷ acc_tb_check ∷ [])
    (acc_tb ∷ acc ∷ acc_ff_lowered ∷ acc_comb_lowered ∷ acc_tb_initial ∷ acc_tb_check ∷ [])
    (lowered_row "acc_ff" kind.Edge ∷ lowered_row "acc_comb" kind.Comb ∷ left_row "acc_tb_initial" reason.TimedWait ∷ [])

-- its report, as text
abbrev pub AccumulatorReport : Type 0
AccumulatorReport =
    report_text (lowered_row "acc_ff" kind.Edge ∷ lowered_row "acc_comb" kind.Comb ∷ left_row "acc_tb_initial" reason.TimedWait ∷ [])
    ≡ codes "lowered @acc_ff edge" ++ (10 ∷ codes "lowered @acc_comb comb" ++ (10 ∷ codes "left @acc_tb_initial TimedWait" ++ 10 ∷ []))

-- ---- its processes alone, and changed

abbrev pub CombAlone : Type 0
CombAlone = Lowers (acc_comb all_waited ∷ []) (acc_comb_lowered ∷ []) (lowered_row "acc_comb" kind.Comb ∷ [])

-- it probes a signal that it does not wait on
abbrev pub CombInsensitive : Type 0
CombInsensitive = Stays (acc_comb ("q" ∷ "en" ∷ []) ∷ []) (left_row "acc_comb" reason.NotSensitive ∷ [])

-- it drives a value from before the edge
abbrev pub EarlyProbe : Type 0
EarlyProbe = Stays (acc_ff_early ∷ []) (left_row "acc_ff" reason.PastValueDriven ∷ [])

-- what it looks at beside the change is another signal's value from before
abbrev pub NoEdge : Type 0
NoEdge = Stays (acc_ff_enabled ∷ []) (left_row "acc_ff" reason.NoEdge ∷ [])

-- ---- a flip-flop with asynchronous reset: two registers

abbrev pub ResetLowers : Type 0
ResetLowers = Lowers (ffr ∷ []) (
    entity "ffr" ffr_args (
    gives "v0" (number 8 0)
    ∷ gives "v1" (probe bit "clk")
    ∷ gives "v2" (probe bit "rst")
    ∷ gives "v3" (one op.Not bit "v2")
    ∷ gives "v4" (delay 0 1)
    ∷ register byte "q" (trigger "v0" Rise "v1" (Some "v3") "v4" ∷ trigger "v0" Fall "v2" None "v4" ∷ [])
    ∷ gives "v5" (probe byte "d")
    ∷ register byte "q" (trigger "v5" Rise "v1" (Some "v2") "v4" ∷ [])
    ∷ [])
    ∷ [])
    (lowered_row "ffr" kind.Edge ∷ [])

-- ---- a constant: on nothing, and at each change of a signal

abbrev pub ConstantLowers : Type 0
ConstantLowers = Lowers (five [] ∷ [])
    (entity "k" five_args (gives "v0" (number 8 5) ∷ gives "v1" (delay 1000000 0) ∷ does (drive byte "q" "v0" "v1") ∷ []) ∷ [])
    (lowered_row "k" kind.Comb ∷ [])

abbrev pub ConstantRepeats : Type 0
ConstantRepeats = Lowers (five ("e" ∷ []) ∷ [])
    (entity "k" five_args (gives "v0" (probe bit "e") ∷ gives "v1" (number 8 5) ∷ gives "v2" (delay 1000000 0) ∷ does (drive byte "q" "v1" "v2") ∷ []) ∷ [])
    (lowered_row "k" kind.Comb ∷ [])

-- ---- drives of one signal with a drive of another between them are not merged

abbrev pub DrivesStayApart : Type 0
DrivesStayApart = Lowers (al ∷ []) (
    entity "al" al_args (
    gives "v0" (probe bit "c")
    ∷ gives "v1" (number 8 1)
    ∷ gives "v2" (delay 0 1)
    ∷ does (drive byte "d" "v1" "v2")
    ∷ gives "v3" (number 8 2)
    ∷ does (drive byte "e" "v3" "v2")
    ∷ gives "v4" (number 8 3)
    ∷ does (drive_if byte "d" "v4" "v2" "v0")
    ∷ [])
    ∷ [])
    (lowered_row "al" kind.Comb ∷ [])

-- ---- a loop without an end

abbrev pub EndlessStays : Type 0
EndlessStays = Stays (endless ∷ []) (left_row "e" reason.TooManyTurns ∷ [])

-- ---- calls: a function that calls itself, and calls that nest 64 and 65 deep

abbrev pub RecursionStays : Type 0
RecursionStays = Stays (recursive ∷ caller "f" ∷ []) (left_row "p" reason.RecursiveCall ∷ [])

abbrev pub DeepCallsLower : Type 0
DeepCallsLower = report (caller "f0" ∷ chain 64 0) ≡ lowered_row "p" kind.Comb ∷ []

abbrev pub DeepCallsStay : Type 0
DeepCallsStay = Stays (caller "f0" ∷ chain 65 0) (left_row "p" reason.CallTooDeep ∷ [])

-- a function that is called twice, on what it gave; a declaration between the units stays in its place
abbrev pub forward : ItemText
forward = declare_text (declare.Func (global "other") [] void_type)

abbrev pub CallsLower : Type 0
CallsLower = Lowers (calls_twice ∷ forward ∷ increment ∷ []) (
    entity "c" calls_twice_args (
    gives "v0" (probe byte "a")
    ∷ gives "v1" (number 8 1)
    ∷ gives "v2" (two op.Add byte "v0" "v1")
    ∷ gives "v3" (two op.Add byte "v2" "v1")
    ∷ gives "v4" (delay 0 1)
    ∷ does (drive byte "q" "v3" "v4")
    ∷ [])
    ∷ forward
    ∷ increment
    ∷ [])
    (lowered_row "c" kind.Comb ∷ [])

-- ---- a part of a signal is reached by the steps that reach it in the process

abbrev pub PartIsReached : Type 0
PartIsReached = Lowers (drives_half ∷ []) (
    entity "h" drives_half_args (gives "v0" (probe half "a") ∷ gives "v1" (delay 0 1) ∷ gives "v2" (low_half "q") ∷ does (drive half "v2" "v0" "v1") ∷ []) ∷ [])
    (lowered_row "h" kind.Comb ∷ [])

-- ---- processes that drive once

abbrev pub drives_once : String → ℕ → ItemText
drives_once n v = entity n (output "s" byte ∷ []) (gives "v0" (number 8 v) ∷ gives "v1" (delay 1000000 0) ∷ does (drive byte "s" "v0" "v1") ∷ [])

abbrev pub OnceLowers : Type 0
OnceLowers = Lowers (sets "p" 1 ∷ sets "r" 2 ∷ both_set ∷ []) (drives_once "p" 1 ∷ drives_once "r" 2 ∷ both_set ∷ [])
    (lowered_row "p" kind.Once ∷ lowered_row "r" kind.Once ∷ [])

-- one that probes, and one that asserts, are none
abbrev pub ProbesHalts : Type 0
ProbesHalts = Stays (sets_and_probes ∷ []) (left_row "p" reason.Halts ∷ [])

abbrev pub AssertsHalts : Type 0
AssertsHalts = Stays (fails ∷ []) (left_row "p" reason.Halts ∷ [])

-- ---- a process that waits in two blocks: for one block on the same bits, and on others

abbrev pub TwoWaitsLower : Type 0
TwoWaitsLower = Lowers (two_waits [] ∷ []) (
    entity "w" two_waits_args (
    gives "v0" (probe bit "c") ∷ gives "v1" (number 8 1) ∷ gives "v2" (delay 0 1) ∷ does (drive_if byte "q" "v1" "v2" "v0") ∷ [])
    ∷ [])
    (lowered_row "w" kind.Comb ∷ [])

abbrev pub TwoWaitsDiffer : Type 0
TwoWaitsDiffer = Stays (two_waits ("q" ∷ []) ∷ []) (left_row "w" reason.MixedWaits ∷ [])

-- ---- a second region that begins with a `phi`: the block that waited tells what the clock was

abbrev pub RemembersLowers : Type 0
RemembersLowers = Lowers (remembers changed_to_one ∷ []) (
    entity "m" remembers_args (
    gives "v0" (probe byte "d") ∷ gives "v1" (probe bit "clk") ∷ gives "v2" (delay 0 1) ∷ register byte "q" (trigger "v0" Rise "v1" None "v2" ∷ []) ∷ [])
    ∷ [])
    (lowered_row "m" kind.Edge ∷ [])

-- Only what has a value from before in it counts as the edge: "it was not 1" alone is true without any change.
abbrev pub NotOneStays : Type 0
NotOneStays = Stays (remembers not_one_before ∷ []) (left_row "m" reason.NoEdge ∷ [])

-- ---- a choice of arrays that nest 15 deep, and 16 deep

abbrev pub DeepChoiceLowers : Type 0
DeepChoiceLowers = report (chooser (nested 14) ∷ []) ≡ lowered_row "y" kind.Comb ∷ []

abbrev pub DeeperChoiceStays : Type 0
DeeperChoiceStays = Stays (chooser (nested 15) ∷ []) (left_row "y" reason.EntityTooLarge ∷ [])

-- ---- all of them

pub record WorkedLowerings : Type 0 where
  pub nothing_lowers : NothingLowers
  pub accumulator_lowers : AccumulatorLowers
  pub accumulator_report : AccumulatorReport
  pub comb_alone : CombAlone
  pub comb_insensitive : CombInsensitive
  pub early_probe : EarlyProbe
  pub no_edge : NoEdge
  pub reset_lowers : ResetLowers
  pub constant_lowers : ConstantLowers
  pub constant_repeats : ConstantRepeats
  pub drives_stay_apart : DrivesStayApart
  pub endless_stays : EndlessStays
  pub recursion_stays : RecursionStays
  pub deep_calls_lower : DeepCallsLower
  pub deep_calls_stay : DeepCallsStay
  pub calls_lower : CallsLower
  pub part_is_reached : PartIsReached
  pub once_lowers : OnceLowers
  pub probes_halts : ProbesHalts
  pub asserts_halts : AssertsHalts
  pub two_waits_lower : TwoWaitsLower
  pub two_waits_differ : TwoWaitsDiffer
  pub remembers_lowers : RemembersLowers
  pub not_one_stays : NotOneStays
  pub deep_choice_lowers : DeepChoiceLowers
  pub deeper_choice_stays : DeeperChoiceStays
