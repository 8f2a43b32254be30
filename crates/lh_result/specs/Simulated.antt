-- What a simulation makes of a file, by the file's trace.
use Rattle.std.specs.Prelude.{◌≡◌, ◌⊎◌, ℕ, List, [], Bool, true, false, None}
use Rattle.lh_unit.specs.Design as design
use Rattle.lh_unit.specs.Design.{Refusal}
use Rattle.lh_unit.specs.Frames.{pictures}
use Rattle.lh_unit.specs.Trace.{Trace, refuses, ran}
use Rattle.lh_watch.specs.Members.{Member}
use Rattle.lh_watch.specs.Shown.{kept}
use Rattle.lh_wave.specs.declared.ending.End.{End}
use Rattle.lh_wave.specs.declared.ending.End.TheVariants as end
use Rattle.lh_wave.specs.declared.run.WaveMode.{WaveMode}
use Rattle.lh_wave.specs.declared.run.WaveMode.TheVariants.{Vcd}
use Rattle.lh_wave.specs.declared.run.WaveMode.TheVariants as mode
use Rattle.lh_wave.specs.ShownRun.{shown_run, all_reports, any_failed}
use Rattle.lh_wave.specs.RunText.{text_in}
use Rattle.lh_wave.specs.BrokenOff.{HaveSeen}
use Rattle.lh_args.specs.Forms.{SimulateRequest}
use Rattle.lh_result.specs.declared.status.TopFault.{TopFault}
use Rattle.lh_result.specs.declared.status.TopFault.TheVariants.{TopMissing, TopIsFunction, InstCycle, TooDeep, TooManyInstances, TooManyBits}
use Rattle.lh_result.specs.declared.status.Status.{Status}
use Rattle.lh_result.specs.declared.status.Status.TheVariants.{Top, Runaway, AssertFailed, Done}

-- why there is no trace, by the refusal of elaboration
abbrev pub fault_of : Refusal → TopFault
fault_of design.top_missing = TopMissing
fault_of design.top_is_function = TopIsFunction
fault_of (design.inst_cycle unit) = InstCycle unit
fault_of design.too_deep = TooDeep
fault_of design.too_many_instances = TooManyInstances
fault_of design.too_many_bits = TooManyBits

-- the status of a run by its end, and by whether an assertion failed in a frame that is shown
abbrev pub status_by : End → (failed : Bool) → Status
status_by (end.Runaway instance) failed = Runaway instance
status_by _ true = AssertFailed
status_by _ false = Done

-- in which form its text is written
abbrev pub mode_of : (vcd : Bool) → WaveMode
mode_of true = Vcd
mode_of false = mode.Trace

-- What is written of a trace, and which members are left.
-- Where elaboration refuses, that is the status. Else the run is shown to the members that are asked for, up to the first stop:
-- the output is the text of what is shown, the log gains the reports, and those members are left, less those that are done.
abbrev pub ResultOfRun : SimulateRequest → List Member → Trace → Status → (out log : List ℕ) → (left : List Member) → Type 0
ResultOfRun s ms (refuses why) status out log left = (status ≡ Top (fault_of why)) × (out ≡ []) × (log ≡ []) × (left ≡ ms)
ResultOfRun s ms (ran instances signals run) status out log left =
    let shown = shown_run run (kept s.titles ms) in
    (status ≡ status_by shown.end (any_failed shown)) × (out ≡ text_in (mode_of s.vcd) instances signals shown) × (log ≡ all_reports shown) × (left ≡ shown.left)

-- The members that may be left where the run was cut off: all as they were, or those that are asked for, each after some of the frames
-- that are shown, from the first on, less those that are done.
abbrev pub MayBeLeft : SimulateRequest → List Member → Trace → (now : List Member) → Type 0
MayBeLeft s ms (refuses why) now = now ≡ ms
MayBeLeft s ms (ran instances signals run) now =
    let asked = kept s.titles ms in
    (now ≡ ms) ⊎ HaveSeen (pictures None (shown_run run asked).frames) asked now
