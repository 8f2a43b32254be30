-- What the steps of a run leave.
use Rattle.std.specs.Prelude.{◌≡◌, ℕ, ◌≤◌, ◌<◌, List, [], map, Bool, Option, Some, None, Result, Ok, Err, length}
use Rattle.lh_io.specs.declared.whole.ReadAllFault.{ReadAllFault}
use Rattle.lh_io.specs.declared.whole.ReadAllFault.TheVariants as whole
use Rattle.lh_read.specs.declared.TextFault.{TextFault}
use Rattle.lh_read.specs.declared.TextFault.TheVariants as text
use Rattle.lh_unit.specs.Arena.{Arena, contents}
use Rattle.lh_unit.specs.Canon.{canon}
use Rattle.lh_unit.specs.Contents.{ItemText}
use Rattle.lh_unit.specs.Design.{Design, Refusal, elab, refused}
use Rattle.lh_unit.specs.Frames.{pictures}
use Rattle.lh_unit.specs.Paths.{shown_in}
use Rattle.lh_unit.specs.Reads.{Reads}
use Rattle.lh_unit.specs.Trace.{shown_signal}
use Rattle.lh_unit.specs.WellFormed.{IsFaultless}
use Rattle.lh_unit_names.specs.declared.name.UnitName.{UnitName}
use Rattle.lh_watch.specs.Members.{Member}
use Rattle.lh_wave.specs.declared.ending.Ending.{Ending}
use Rattle.lh_wave.specs.declared.run.WaveFault.{WaveFault}
use Rattle.lh_wave.specs.declared.run.WaveFault.TheVariants as wave
use Rattle.lh_wave.specs.BrokenOff.{HaveSeen}
use Rattle.lh_wave.specs.RunText.{text_in}
use Rattle.lh_wave.specs.ShownRun.{ShownRun, all_reports, any_failed}
use Rattle.lh_args.specs.Forms.{FileRequest, WordsAskForSelfTest}
use Rattle.lh_selftest_design.specs.Generated.{generated}
use Rattle.lh_selftest.specs.Answer.{answer_of}
use Rattle.lh_args.specs.declared.command.Command.{Command}
use Rattle.lh_args.specs.declared.command.Command.TheVariants.{OnFile, Selftest}
use Rattle.lh_args.specs.Meant.{meant}
use Rattle.lh_result.specs.Called.{Calls, IsMisuse}
use Rattle.lh_result.specs.Simulated.{fault_of, status_by, mode_of}
use Rattle.lh_result.specs.Result.{source_limit, HasFirstFault, IsRefusedFor, ResultOfCommand, MayLeave}
use Rattle.lh_result.specs.Account.{SinkUse, Gained, WriteBreaksOff, SinksAreLeft}
use Rattle.lh_result.specs.declared.status.Refusal.TheVariants.{Syntax, UnitTooLarge, DuplicateName, Invalid}
use Rattle.lh_result.specs.declared.status.Status.{Status}
use Rattle.lh_result.specs.declared.status.Status.TheVariants.{ReadFault, SourceTooLong, Refused, Top, WriteFault, Done, OutOfMemory}

-- the status that a fault of the source brings
abbrev pub source_status : ReadAllFault → Status
source_status whole.ReadFault = ReadFault
source_status whole.TooLong = SourceTooLong
source_status whole.OutOfMemory = OutOfMemory

-- the status that a fault of the text brings
abbrev pub text_status : TextFault → Status
text_status (text.Syntax line) = Refused (Syntax line)
text_status (text.UnitTooLarge line) = Refused (UnitTooLarge line)
text_status (text.DuplicateName line) = Refused (DuplicateName line)
text_status text.OutOfMemory = OutOfMemory

-- the status that a fault of showing a run brings
abbrev pub wave_status : WaveFault → Status
wave_status wave.WriteFault = WriteFault
wave_status wave.OutOfMemory = OutOfMemory

-- the status of a step that was done, or stopped
abbrev pub ended : {T : Type 0} → Result T Status → Status
ended (Ok _) = Done
ended (Err status) = status

-- the words call for the command, where there is one, and else for nothing
abbrev pub IsCalled : List (List ℕ) → List Member → Option Command → Type 0
IsCalled words ms (Some (OnFile c)) = Calls words ms (meant c)
IsCalled words ms (Some (Selftest links)) = WordsAskForSelfTest words links
IsCalled words ms None = IsMisuse words ms

-- the status of a file with a fault names its first one; running out of memory says nothing
abbrev pub IsFaultStatus : Status → List ItemText → Type 0
IsFaultStatus (Refused (Invalid unit inst number)) file = HasFirstFault file unit inst number
IsFaultStatus OutOfMemory file = Unit {0}
IsFaultStatus _ file = ⊥

-- the bytes are few enough and read as this well-formed file
pub record IsLoaded (bytes : List ℕ) (file : List ItemText) : Type 0 where
  pub few : length bytes ≤ source_limit
  pub reads : Reads bytes file
  pub faultless : IsFaultless file

-- the bytes are loaded, or why not; a read fault and running out of memory say nothing of them
abbrev pub Loads : List ℕ → Result Arena Status → Type 0
Loads bytes (Ok m) = IsLoaded bytes (contents m)
Loads bytes (Err SourceTooLong) = source_limit < length bytes
Loads bytes (Err (Refused why)) = (length bytes ≤ source_limit) × IsRefusedFor bytes why
Loads bytes (Err ReadFault) = Unit {0}
Loads bytes (Err OutOfMemory) = Unit {0}
Loads bytes (Err _) = ⊥

-- which members a step leaves by how it ends: those of the result, or, where it was cut off, some that may be left then; it never ends as a read fault
abbrev pub AreLeftBy : Status → (result : Type 0) → (cut_off : Type 0) → Type 0
AreLeftBy ReadFault result cut_off = ⊥
AreLeftBy WriteFault result cut_off = cut_off
AreLeftBy OutOfMemory result cut_off = cut_off
AreLeftBy _ result cut_off = result

-- What a command leaves of a well-formed file.
pub record Carries (a : FileRequest) (file : List ItemText) (ms : List Member) (ended : Status) (out log : SinkUse) (now : List Member) : Type 0 where
  pub status : Status
  pub out_text : List ℕ
  pub log_text : List ℕ
  pub left : List Member
  pub makes : ResultOfCommand a file ms status out_text log_text left
  pub sinks : SinksAreLeft ended status out_text log_text out log
  pub members : AreLeftBy ended (now ≡ left) (MayLeave a file ms now)

-- how much of the canonical text of a file came to the output, by how the writing of it ends
abbrev pub WritesCanon : List ItemText → Status → (out : SinkUse) → Type 0
WritesCanon file Done out = Gained out (canon file)
WritesCanon file WriteFault out = WriteBreaksOff out (canon file)
WritesCanon file OutOfMemory out = Gained out []
WritesCanon file _ out = ⊥

-- how much of the text of a self-test came to the output, by how the writing of it ends
abbrev pub WritesSelfTest : (links : ℕ) → Status → (out : SinkUse) → Type 0
WritesSelfTest links Done out = (file : List ItemText) × Reads (generated links) file × Gained out (answer_of file)
WritesSelfTest links WriteFault out = (file : List ItemText) × Reads (generated links) file × WriteBreaksOff out (answer_of file)
WritesSelfTest links OutOfMemory out = Gained out []
WritesSelfTest links _ out = ⊥

-- the status of a simulation that was carried out, or cut off
abbrev pub simulated : Result Ending Status → Status
simulated (Ok e) = status_by e.end e.failed
simulated (Err status) = status

-- the text of what is shown of a design
abbrev pub text_of : Bool → Design → ShownRun → List ℕ
text_of vcd d shown = text_in (mode_of vcd) (shown_in d) (map shown_signal d.signals) shown

-- What showing a run leaves: its text in the output and the reports in the log, or parts of them; and the members, each after all of the frames that are shown, or some of them.
pub record ShowsRun (vcd : Bool) (d : Design) (shown : ShownRun) (asked : List Member) (ended : Status) (out log : SinkUse) (now : List Member) : Type 0 where
  pub sinks : SinksAreLeft ended (status_by shown.end (any_failed shown)) (text_of vcd d shown) (all_reports shown) out log
  pub members : AreLeftBy ended (now ≡ shown.left) (HaveSeen (pictures None shown.frames) asked now)

-- the status says why a top is not simulated; running out of memory says nothing
abbrev pub IsTopStatus : Status → List ItemText → UnitName → Type 0
IsTopStatus (Top why) file top = (r : Refusal) × (elab file top ≡ refused r) × (why ≡ fault_of r)
IsTopStatus OutOfMemory file top = Unit {0}
IsTopStatus _ file top = ⊥
