-- The answer of a self-test as a function of the file.
use Rattle.std.specs.Prelude.{◌≡◌, ℕ, List, []}
use Rattle.lh_unit.specs.Contents.{ItemText}
use Rattle.lh_unit.specs.Reads.{Reads}
use Rattle.lh_unit.specs.Trace.{Trace, refuses, ran, trace}
use Rattle.lh_lower_def.specs.Lowering.{lowered}
use Rattle.lh_selftest_design.specs.Generated.{generated}
use Rattle.lh_selftest_design.specs.Summary.{chain_name, max_frames, counts_of, course_of, summary}
use Rattle.lh_selftest_design.specs.declared.summary.RunSummary.{RunSummary}
use Rattle.lh_selftest_design.specs.declared.summary.RunEnd.TheVariants.{Quiet}
use Rattle.lh_selftest.specs.SelfTest.{IsSelfTest, units_of}

-- how the run of a trace goes; a top that is refused, which no chain is, would have no frames
abbrev pub course_in : Trace → RunSummary
course_in (refuses why) = record { counts = counts_of []; ending = Quiet }
course_in (ran instances signals run) = course_of run

-- The summary of the trace of a file, and of the trace of what it is lowered to.
unfoldable pub answer_of : List ItemText → List ℕ
answer_of file = summary (units_of file) (course_in (trace file chain_name max_frames)) (course_in (trace (lowered file) chain_name max_frames))

-- each answer is that of the file that the text of the chain reads as
abbrev pub AnswerIsOfFile : Type 0
AnswerIsOfFile = (links : ℕ) (answer : List ℕ) → IsSelfTest links answer → (file : List ItemText) × Reads (generated links) file × (answer ≡ answer_of file)
