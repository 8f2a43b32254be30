-- The answer of a self-test is that of the file.
use Rattle.std.proofs.Common.{◌≡◌, ℕ, List, ap, ◌∙◌}
use Rattle.lh_unit.specs.Contents.{ItemText}
use Rattle.lh_unit.specs.Trace.{Trace, refuses, ran, trace}
use Rattle.lh_lower_def.specs.Lowering.{lowered}
use Rattle.lh_selftest_design.specs.Summary.{chain_name, max_frames, WentSo, IsSummaryOf, summary}
use Rattle.lh_selftest_design.specs.declared.summary.RunSummary.{RunSummary}
use Rattle.lh_selftest.specs.SelfTest.{IsSelfTest, units_of}
use Rattle.lh_selftest.specs.Answer.{course_in, answer_of, AnswerIsOfFile}

went_in : (t : Trace) (c : RunSummary) → WentSo t c → c ≡ course_in t
went_in (refuses why) c p = absurd p
went_in (ran instances signals run) c p = p

summary_in : (file : List ItemText) (answer : List ℕ) → IsSummaryOf file (lowered file) (units_of file) answer → answer ≡ answer_of file
unfolding answer_of
summary_in file answer (c, c', p, p', is) =
    let t = trace file chain_name max_frames in
    let t' = trace (lowered file) chain_name max_frames in
    is ∙ ap (λ (x : RunSummary). summary (units_of file) x c') (went_in t c p) ∙ ap (summary (units_of file) (course_in t)) (went_in t' c' p')

pub answer_is_of_file : AnswerIsOfFile
unfolding IsSelfTest
answer_is_of_file links answer (file, reads, is) = (file, reads, summary_in file answer is)
