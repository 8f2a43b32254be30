-- What is said of small modules that were lowered and edited by hand.
use Rattle.std.specs.Prelude.{ℕ, List, [], ◌∷◌, Some, None}
use Rattle.lh_types.specs.declared.op.Op.TheVariants as op
use Rattle.lh_unit.specs.declared.inst.Mode.TheVariants.{Rise, Fall, Both}
use Rattle.lh_unit.specs.Contents.{sig_text, LineText, ItemText}
use Rattle.lh_lower_def.specs.Modules.{bit, byte, word, typed, gives, does, number, delay, two, probe, drive, drive_if, output, entity, trigger, register, acc_tb, acc, acc_ff_args, acc_ff, acc_ff_early, acc_comb_args, acc_comb, acc_tb_initial, acc_tb_check, ffr_args, ffr, five_args, five, al_args, al, sets}
use Rattle.lh_lower_def.specs.Worked.{acc_ff_lowered, acc_comb_lowered, all_waited, drives_once}
use Rattle.lh_cert_def.specs.Causes.{IsCertifiedAs}
use Rattle.lh_cert_def.specs.declared.cause.Cause.{Cause}
use Rattle.lh_cert_def.specs.declared.cause.Cause.TheVariants as cause

-- an edited module is certified; or it is not, since a place has this cause
abbrev pub Certified : (m edited : List ItemText) → Type 0
Certified m edited = IsCertifiedAs m edited None

abbrev pub NotCertified : (m edited : List ItemText) → (place : ℕ) → Cause → Type 0
NotCertified m edited k c = IsCertifiedAs m edited (Some (k, c))

-- so of modules of one unit
abbrev pub MayReplace : (unit edited : ItemText) → Type 0
MayReplace u e = Certified (u ∷ []) (e ∷ [])

abbrev pub HasCause : (unit edited : ItemText) → Cause → Type 0
HasCause u e c = NotCertified (u ∷ []) (e ∷ []) 0 c

-- ---- an accumulator with its testbench, as it is lowered

abbrev pub AsLowered : Type 0
AsLowered = Certified (acc_tb ∷ acc ∷ acc_ff ∷ acc_comb all_waited ∷ acc_tb_initial ∷ acc_tb_check ∷ [])
    (acc_tb ∷ acc ∷ acc_ff_lowered ∷ acc_comb_lowered ∷ acc_tb_initial ∷ acc_tb_check ∷ [])

-- its register with other arguments, behind a unit that is as it was; and with a unit too few
abbrev pub OtherArguments : Type 0
OtherArguments = NotCertified (acc_tb ∷ acc_ff ∷ []) (acc_tb ∷ entity "acc_ff" acc_comb_args [] ∷ []) 1 cause.Units

abbrev pub OneUnitLess : Type 0
OneUnitLess = NotCertified (acc_tb ∷ acc_ff ∷ []) (acc_tb ∷ []) 1 cause.Units

-- its testbench without its lines
abbrev pub OtherContents : Type 0
OtherContents = NotCertified (acc_tb ∷ []) (entity "acc_tb" [] [] ∷ []) 0 cause.Changed

-- ---- its logic: with the operands of the choice exchanged, with two drives in the place of the choice, and with a signal of its own

abbrev pub logic : List LineText → ItemText
logic more = entity "acc_comb" acc_comb_args (
    gives "v0" (probe word "q") ∷ gives "v1" (probe word "x") ∷ gives "v2" (probe bit "en") ∷ gives "v3" (two op.Add word "v0" "v1") ∷ gives "v6" (delay 0 1) ∷ more)

abbrev pub exchanged_choice : ItemText
exchanged_choice = logic (gives "v4" (two op.Array word "v3" "v0") ∷ gives "v5" (two op.Mux word "v4" "v2") ∷ does (drive word "d" "v5" "v6") ∷ [])

abbrev pub two_drives : ItemText
two_drives = logic (does (drive word "d" "v0" "v6") ∷ does (drive_if word "d" "v3" "v6" "v2") ∷ [])

abbrev pub own_signal : ItemText
own_signal = logic (gives "s" (sig_text (typed word "v0")) ∷ does (drive word "d" "v0" "v6") ∷ does (drive_if word "d" "v3" "v6" "v2") ∷ [])

-- ---- its register: at a rise and a fall; with the rise twice, and a fall whose gate is the constant 0; and as a drive

abbrev pub flip_flop : List LineText → ItemText
flip_flop more = entity "acc_ff" acc_ff_args (gives "v0" (probe word "d") ∷ gives "v1" (probe bit "clk") ∷ gives "v2" (delay 0 1) ∷ gives "v3" (number 1 0) ∷ more)

abbrev pub both_for_rise : ItemText
both_for_rise = flip_flop (register word "q" (trigger "v0" Both "v1" None "v2" ∷ []) ∷ [])

abbrev pub other_triggers : ItemText
other_triggers = flip_flop (register word "q" (trigger "v0" Rise "v1" None "v2" ∷ trigger "v0" Fall "v1" (Some "v3") "v2" ∷ trigger "v0" Rise "v1" None "v2" ∷ []) ∷ [])

abbrev pub drive_for_register : ItemText
drive_for_register = flip_flop (does (drive word "q" "v0" "v2") ∷ [])

-- ---- a flip-flop with reset: its gate by another connective, and its registers in another order

abbrev pub with_reset : (registers : List LineText) → ItemText
with_reset rs = entity "ffr" ffr_args (
    gives "v0" (number 8 0)
    ∷ gives "v1" (probe bit "clk")
    ∷ gives "v2" (probe bit "rst")
    ∷ gives "k" (number 1 1)
    ∷ gives "v3" (two op.Xor bit "v2" "k")
    ∷ gives "v4" (delay 0 1)
    ∷ gives "v5" (probe byte "d")
    ∷ rs)

abbrev pub resets : LineText
resets = register byte "q" (trigger "v0" Fall "v2" None "v4" ∷ trigger "v0" Rise "v1" (Some "v3") "v4" ∷ [])

abbrev pub loads : LineText
loads = register byte "q" (trigger "v5" Rise "v1" (Some "v2") "v4" ∷ [])

abbrev pub other_gate : ItemText
other_gate = with_reset (resets ∷ loads ∷ [])

abbrev pub other_order : ItemText
other_order = with_reset (loads ∷ resets ∷ [])

-- ---- a constant that is driven at each change of a signal: that is not probed

abbrev pub not_probed : ItemText
not_probed = entity "k" five_args (gives "v0" (number 8 5) ∷ gives "v1" (delay 1000000 0) ∷ does (drive byte "q" "v0" "v1") ∷ [])

-- ---- three drives: as they are, and the last two exchanged, since two signals may be bound to one

abbrev pub three_drives : (more : List LineText) → ItemText
three_drives more = entity "al" al_args (
    gives "v0" (probe bit "c") ∷ gives "v1" (number 8 1) ∷ gives "v2" (delay 0 1) ∷ gives "v3" (number 8 2) ∷ gives "v4" (number 8 3) ∷ does (drive byte "d" "v1" "v2") ∷ more)

abbrev pub to_other : LineText
to_other = does (drive byte "e" "v3" "v2")

abbrev pub to_first : LineText
to_first = does (drive_if byte "d" "v4" "v2" "v0")

abbrev pub in_order : ItemText
in_order = three_drives (to_other ∷ to_first ∷ [])

abbrev pub exchanged_drives : ItemText
exchanged_drives = three_drives (to_first ∷ to_other ∷ [])

-- ---- a process that drives once: with a probe

abbrev pub probes_once : ItemText
probes_once = entity "p" (output "s" byte ∷ []) (gives "x" (probe byte "s") ∷ gives "v0" (number 8 1) ∷ gives "v1" (delay 1000000 0) ∷ does (drive byte "s" "v0" "v1") ∷ [])

-- ---- all of them

pub record WorkedCauses : Type 0 where
  pub as_lowered : AsLowered
  pub other_arguments : OtherArguments
  pub one_unit_less : OneUnitLess
  pub other_contents : OtherContents
  pub exchanged_choice : HasCause (acc_comb all_waited) exchanged_choice cause.Drives
  pub two_drives : MayReplace (acc_comb all_waited) two_drives
  pub own_signal : HasCause (acc_comb all_waited) own_signal cause.Form
  pub both_for_rise : HasCause acc_ff both_for_rise cause.Registers
  pub other_triggers : MayReplace acc_ff other_triggers
  pub drive_for_register : HasCause acc_ff drive_for_register cause.Form
  pub for_one_that_stays : HasCause acc_ff_early acc_ff_lowered cause.HasReason
  pub other_gate : MayReplace ffr other_gate
  pub other_order : HasCause ffr other_order cause.Registers
  pub not_probed : HasCause (five ("e" ∷ [])) not_probed cause.Sensed
  pub in_order : MayReplace al in_order
  pub exchanged_drives : HasCause al exchanged_drives cause.Drives
  pub as_once : MayReplace (sets "p" 1) (drives_once "p" 1)
  pub probes_once : HasCause (sets "p" 1) probes_once cause.Sensed
