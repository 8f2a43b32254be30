-- What a run comes to, by its words, the bytes of its source and its watchers.
use Rattle.std.specs.Prelude.{◌≡◌, ℕ, ◌≤◌, ◌<◌, List, [], length, Bool, true, false, nat_lt}
use Rattle.lh_unit.specs.Contents.{ItemText}
use Rattle.lh_unit.specs.Reads.{Reads, FirstBad, syntax, unit_too_large, duplicate_name}
use Rattle.lh_unit.specs.Canon.{canon}
use Rattle.lh_unit.specs.Trace.{trace}
use Rattle.lh_unit.specs.WellFormed.{FaultKind, number_of, IsFirstFault, IsFaultless}
use Rattle.lh_unit_names.specs.declared.name.UnitName.{UnitName}
use Rattle.lh_watch.specs.Members.{Member}
use Rattle.lh_args.specs.Forms.{FileRequest, check, lower, simulate, WordsAskForSelfTest}
use Rattle.lh_lower_def.specs.Lowering.{lowered, report}
use Rattle.lh_lower_def.specs.Report.{report_text}
use Rattle.lh_selftest_design.specs.Generated.{generated}
use Rattle.lh_selftest.specs.Answer.{answer_of}
use Rattle.lh_result.specs.Called.{Calls, IsMisuse}
use Rattle.lh_result.specs.Simulated.{ResultOfRun, MayBeLeft}
use Rattle.lh_result.specs.declared.status.Refusal.{Refusal}
use Rattle.lh_result.specs.declared.status.Refusal.TheVariants.{Syntax, UnitTooLarge, DuplicateName, Invalid}
use Rattle.lh_result.specs.declared.status.Status.{Status}
use Rattle.lh_result.specs.declared.status.Status.TheVariants.{Usage, SourceTooLong, Refused, OutputTooLong, Done}

-- how many bytes a source may give
abbrev pub source_limit : ℕ
source_limit = 67108864

-- an instruction of the file is its first faulty one, and this is the number of its lowest fault
abbrev pub HasFirstFault : List ItemText → UnitName → (inst number : ℕ) → Type 0
HasFirstFault file unit inst number = (k : FaultKind) × (number_of k ≡ number) × IsFirstFault file unit inst k

-- the bytes are refused for this
abbrev pub IsRefusedFor : List ℕ → Refusal → Type 0
IsRefusedFor bytes (Syntax line) = FirstBad bytes line syntax
IsRefusedFor bytes (UnitTooLarge line) = FirstBad bytes line unit_too_large
IsRefusedFor bytes (DuplicateName line) = FirstBad bytes line duplicate_name
IsRefusedFor bytes (Invalid unit inst number) = (file : List ItemText) × Reads bytes file × HasFirstFault file unit inst number

-- the canonical text of the lowered module has more bytes than a source may give
abbrev pub is_too_long : List ItemText → Bool
is_too_long file = nat_lt source_limit (length (canon (lowered file)))

-- What is made of a file whose lowered text is too long, or is not: nothing; or that text, and for the log the report, a line for each process.
abbrev pub ResultOfLowering : Bool → List ItemText → List Member → Status → (out log : List ℕ) → (left : List Member) → Type 0
ResultOfLowering true file ms status out log left = (status ≡ OutputTooLong) × (out ≡ []) × (log ≡ []) × (left ≡ ms)
ResultOfLowering false file ms status out log left = (status ≡ Done) × (out ≡ canon (lowered file)) × (log ≡ report_text (report file)) × (left ≡ ms)

-- What a command makes of a well-formed file: its status, the text for the output, the text for the log before the line of the
-- status, and the members that are left. `check` makes the canonical text; `lower` the canonical text of the lowered module; `simulate`
-- shows the trace of its top up to its bound.
abbrev pub ResultOfCommand : FileRequest → List ItemText → List Member → Status → (out log : List ℕ) → (left : List Member) → Type 0
ResultOfCommand check file ms status out log left = (status ≡ Done) × (out ≡ canon file) × (log ≡ []) × (left ≡ ms)
ResultOfCommand lower file ms status out log left = ResultOfLowering (is_too_long file) file ms status out log left
ResultOfCommand (simulate s) file ms status out log left = ResultOfRun s ms (trace file s.top s.steps) status out log left

-- the members that may be left where a command did not come to its end
abbrev pub MayLeave : FileRequest → List ItemText → List Member → (now : List Member) → Type 0
MayLeave check file ms now = now ≡ ms
MayLeave lower file ms now = now ≡ ms
MayLeave (simulate s) file ms now = MayBeLeft s ms (trace file s.top s.steps) now

-- The status, the text for the output, the text for the log before the line of the status, and the members that are left.
-- The rows stand in the order of refusals, and each holds only where none above it does. What `selftest` writes does not depend on the bytes.
pub data IsResult (words : List (List ℕ)) (bytes : List ℕ) (ms : List Member) : Status → List ℕ → List ℕ → List Member → Type 0 where
  usage : IsMisuse words ms → IsResult words bytes ms Usage [] [] ms
  tested : (links : ℕ) (file : List ItemText) → WordsAskForSelfTest words links → Reads (generated links) file → IsResult words bytes ms Done (answer_of file) [] ms
  source_too_long : (a : FileRequest) → Calls words ms a → source_limit < length bytes → IsResult words bytes ms SourceTooLong [] [] ms
  refused : (a : FileRequest) (why : Refusal) → Calls words ms a → length bytes ≤ source_limit → IsRefusedFor bytes why → IsResult words bytes ms (Refused why) [] [] ms
  made : (a : FileRequest) (file : List ItemText) (status : Status) (out log : List ℕ) (left : List Member) → Calls words ms a → length bytes ≤ source_limit → Reads bytes file → IsFaultless file
      → ResultOfCommand a file ms status out log left → IsResult words bytes ms status out log left
