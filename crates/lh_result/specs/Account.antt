-- What a run leaves of its source, its sinks and its watchers.
use Rattle.std.specs.Prelude.{◌≡◌, ℕ, ◌+◌, ◌≤◌, ◌<◌, List, [], ◌++◌, Option, Some, None, IfSome, Result, Ok, Err, length, ◌⊎◌}
use Rattle.lh_io.specs.Streams.{Rose, Appends}
use Rattle.lh_io.specs.declared.stream.Failed.{Failed}
use Rattle.lh_unit.specs.Contents.{ItemText}
use Rattle.lh_unit.specs.Reads.{Reads}
use Rattle.lh_watch.specs.Members.{Member}
use Rattle.lh_args.specs.Forms.{FileRequest}
use Rattle.lh_result.specs.Called.{Calls, AskSelfTest}
use Rattle.lh_result.specs.Result.{MayLeave, IsResult, source_limit}
use Rattle.lh_result.specs.StatusLines.{status_line}
use Rattle.lh_result.specs.declared.status.Status.{Status}
use Rattle.lh_result.specs.declared.status.Status.TheVariants.{Usage, ReadFault, SourceTooLong, WriteFault, OutOfMemory}

-- a sink before and after: what was written, where it tells, and its count of faults
pub record SinkUse : Type 0 where
  pub was : Option (List ℕ)
  pub now : Option (List ℕ)
  pub was_faults : ℕ
  pub faults : ℕ

abbrev pub use_of : Option (List ℕ) → Option (List ℕ) → ℕ → ℕ → SinkUse
use_of was now was_faults faults = record { was = was; now = now; was_faults = was_faults; faults = faults }

-- the sink gained this text
abbrev pub Gained : SinkUse → List ℕ → Type 0
Gained u text = Appends u.was u.now text

-- the faults of the sink rose
abbrev pub Faulted : SinkUse → Type 0
Faulted u = Rose u.was_faults u.faults

-- part is a prefix of the text
abbrev pub IsPrefix : List ℕ → List ℕ → Type 0
IsPrefix part text = (rest : List ℕ) × (text ≡ part ++ rest)

-- part is a prefix of the text, and not all of it
pub record IsProperPrefix (part text : List ℕ) : Type 0 where
  pub rest : List ℕ
  pub split : text ≡ part ++ rest
  pub proper : 0 < length rest

-- a write of the text broke off: the sink gained a proper prefix of it, and its faults rose
pub record WriteBreaksOff (u : SinkUse) (text : List ℕ) : Type 0 where
  pub part : List ℕ
  pub is_prefix : IsProperPrefix part text
  pub gained : Gained u part
  pub rose : Faulted u

-- the sink gained the text, or the write of it broke off
abbrev pub Puts : Result (Unit {0}) Failed → SinkUse → List ℕ → Type 0
Puts (Ok _) u text = Gained u text
Puts (Err _) u text = WriteBreaksOff u text

-- Which status may be answered for the status of the result, and how much was then written of the texts for the output and the log.
-- Of the three statuses that a source, a sink or memory brings about each says its cause, but running out of memory has none.
abbrev pub IsStatusFor : Status → (status : Status) → (out_text log_text : List ℕ) → (out log : SinkUse) → (out_part log_part : List ℕ) → Type 0
IsStatusFor ReadFault status out_text log_text out log out_part log_part = (out_part ≡ []) × (log_part ≡ [])
IsStatusFor WriteFault status out_text log_text out log out_part log_part =
    (IsProperPrefix out_part out_text × Faulted out) ⊎ (IsProperPrefix log_part log_text × Faulted log)
IsStatusFor OutOfMemory status out_text log_text out log out_part log_part = Unit {0}
IsStatusFor other status out_text log_text out log out_part log_part = (other ≡ status) × (out_part ≡ out_text) × (log_part ≡ log_text)

-- What came to the sinks before the status line, where these are the status and the texts of the result. The output gained a prefix
-- of its text, and the log a prefix of its own, which is empty unless the output gained all.
pub record SinksAreLeft (ended status : Status) (out_text log_text : List ℕ) (out log : SinkUse) : Type 0 where
  pub out_part : List ℕ
  pub log_part : List ℕ
  pub by_status : IsStatusFor ended status out_text log_text out log out_part log_part
  pub out_prefix : IsPrefix out_part out_text
  pub log_prefix : IsPrefix log_part log_text
  pub in_order : (out_part ≡ out_text) ⊎ (log_part ≡ [])
  pub out_gained : Gained out out_part
  pub log_gained : Gained log log_part

-- Which members are left, where the result leaves `left`. After a read fault they are as they were. After a write fault, and where there is no
-- memory they are as they were, or those that may be left where a command did not come to its end.
abbrev pub AreLeft : Status → (words : List (List ℕ)) → (bytes : List ℕ) → (ms left now : List Member) → Type 0
AreLeft ReadFault words bytes ms left now = now ≡ ms
AreLeft WriteFault words bytes ms left now = (now ≡ ms) ⊎ ((a : FileRequest) × (file : List ItemText) × Calls words ms a × Reads bytes file × MayLeave a file ms now)
AreLeft OutOfMemory words bytes ms left now = (now ≡ ms) ⊎ ((a : FileRequest) × (file : List ItemText) × Calls words ms a × Reads bytes file × MayLeave a file ms now)
AreLeft other words bytes ms left now = now ≡ left

-- A run up to its status line: the result by the words, the bytes and the members, what came to the sinks, and which members are left.
pub record Performs (words : List (List ℕ)) (bytes : List ℕ) (ms : List Member) (ended : Status) (out log : SinkUse) (now : List Member) : Type 0 where
  pub status : Status
  pub out_text : List ℕ
  pub log_text : List ℕ
  pub left : List Member
  pub result : IsResult words bytes ms status out_text log_text left
  pub sinks : SinksAreLeft ended status out_text log_text out log
  pub members : AreLeft ended words bytes ms left now

-- The account of a run with this status: what it did up to its status line, and then a prefix of that line in the log, which is whole
-- where the log's faults did not rise.
pub record Account (words : List (List ℕ)) (bytes : List ℕ) (ms : List Member) (ended : Status) (out log : SinkUse) (now : List Member) : Type 0 where
  -- what the log held before the line, where it tells, and its count of faults then
  pub held : Option (List ℕ)
  pub held_faults : ℕ
  pub before : Performs words bytes ms ended out (use_of log.was held log.was_faults held_faults) now
  pub line : List ℕ
  pub line_prefix : IsPrefix line (status_line ended)
  pub line_whole : ¬ Faulted log → line ≡ status_line ended
  pub line_gained : Appends held log.now line
  pub rising : (log.was_faults ≤ held_faults) × (held_faults ≤ log.faults)

-- a fact of the bytes of a source: of those that are left, where it tells them, and else of some bytes
abbrev pub OfSource : Option (List ℕ) → (List ℕ → Type 0) → Type 0
OfSource (Some bytes) P = P bytes
OfSource None P = (bytes : List ℕ) × P bytes

-- the number of bytes that came is one more than the limit exactly where they are too many; Usage reads none
abbrev pub IsCountFor : Status → ℕ → Type 0
IsCountFor SourceTooLong n = n ≡ source_limit + 1
IsCountFor Usage n = n ≡ 0
IsCountFor _ n = n ≤ source_limit

-- the source was read to its end, where the status is of what came
abbrev pub IsReadToEnd : Status → Option (List ℕ) → Option (List ℕ) → Type 0
IsReadToEnd Usage was_left left = Unit {0}
IsReadToEnd ReadFault was_left left = Unit {0}
IsReadToEnd SourceTooLong was_left left = Unit {0}
IsReadToEnd OutOfMemory was_left left = Unit {0}
IsReadToEnd _ was_left left = IfSome was_left (λ _. left ≡ Some [])

-- the same, but for a self-test, which reads nothing
abbrev pub IsReadToEndFor : List (List ℕ) → Status → Option (List ℕ) → Option (List ℕ) → Type 0
IsReadToEndFor words status was_left left = (AskSelfTest words → ⊥) → IsReadToEnd status was_left left

-- words, bytes and members have exactly one result
pub record HasOneResult (words : List (List ℕ)) (bytes : List ℕ) (ms : List Member) : Type 0 where
  pub status : Status
  pub out : List ℕ
  pub log : List ℕ
  pub left : List Member
  pub result : IsResult words bytes ms status out log left
  pub only : (s : Status) (o l : List ℕ) (now : List Member) → IsResult words bytes ms s o l now → (s ≡ status) × (o ≡ out) × (l ≡ log) × (now ≡ left)

-- the status is that of the result, or memory ran out
abbrev pub IsResultOrNoMemory : List (List ℕ) → List ℕ → List Member → Status → Type 0
IsResultOrNoMemory words bytes ms ended =
    (status : Status) (out log : List ℕ) (left : List Member) → IsResult words bytes ms status out log left → (ended ≡ status) ⊎ (ended ≡ OutOfMemory)
