use Rattle.std.proofs.Common.{Err, Ok, arith}
use Rattle.lh_unit.specs.Arena.{contents}
use Rattle.lh_args.specs.Meant.{meant}
use Rattle.lh_result.specs.Steps.{Loads}
use Rattle.lh_run.proofs.Faithfully.{faithful, unloaded, misused, no_lowering}
use Rattle.lh_result.proofs.Results.{HasOneResult-misuse, HasOneResult-called, HasOneResult-tested}
use Rattle.lh_result.proofs.Accounts.{OfSource-weaker}
use Rattle.lh_result.proofs.Callings.{Calls-frames, calls_no_test, misuse_no_test}
use Rattle.lh_result.proofs.Performances.{of_any, takes_none, unloaded_not_usage, Performs-misuse, Performs-unloaded, Performs-carried, Performs-tested, WritesSelfTest-status, IsTestStatus-carried, Carries-status, IsCountFor-carried, IsReadToEnd-carried, never_reads, never_usage}
use Rattle.lh_run.proofs.top.perform.Goals as goal

pub returns-in_default-clause-performs : goal.returns-in_default-clause-performs
returns-in_default-clause-performs g c =
    let none = rw c.as_slice.ensures.value at c.in_default.ensures in
    of_any _ _ (λ bytes. Performs-misuse _ bytes _ _ _ _ _ none)

pub returns-in_default-clause-one_result : goal.returns-in_default-clause-one_result
returns-in_default-clause-one_result g c =
    let none = rw c.as_slice.ensures.value at c.in_default.ensures in
    λ bytes. HasOneResult-misuse _ bytes _ none

pub returns-in-Err-clause-usage : goal.returns-in-Err-clause-usage
returns-in-Err-clause-usage g c =
    let calls = rw c.as_slice.ensures.value at (rw c.in-OnFile.is at c.in-Some.ensures) in
    (λ is. unloaded_not_usage _ _ _ c.in-Err.ensures.loads is, λ never. absurd (never.on_file _ calls))

pub returns-in-Err-clause-untouched : goal.returns-in-Err-clause-untouched
returns-in-Err-clause-untouched g c = λ is. unloaded_not_usage _ _ _ c.in-Err.ensures.loads is

pub returns-in-Err-clause-performs : goal.returns-in-Err-clause-performs
returns-in-Err-clause-performs g c =
    let calls = rw c.as_slice.ensures.value at (rw c.in-OnFile.is at c.in-Some.ensures) in
    OfSource-weaker _ (λ bytes. Loads bytes (Err c.in-Err.status)) _ (λ bytes loads. Performs-unloaded _ bytes _ (meant c.in-OnFile.on_file) c.in-Err.status _ _ _ _ calls loads) c.in-Err.ensures.loads

pub returns-in-Err-clause-one_result : goal.returns-in-Err-clause-one_result
returns-in-Err-clause-one_result g c =
    let calls = rw c.as_slice.ensures.value at (rw c.in-OnFile.is at c.in-Some.ensures) in
    λ bytes. HasOneResult-called _ bytes _ (meant c.in-OnFile.on_file) calls

pub returns-clause-usage : goal.returns-clause-usage
returns-clause-usage g c =
    let calls = rw c.as_slice.ensures.value at (rw c.in-OnFile.is at c.in-Some.ensures) in
    let carried = Carries-status _ _ _ _ _ _ _ c.carry_out.ensures.carries in
    (λ is. never_usage _ _ carried is, λ never. absurd (never.on_file _ calls))

pub returns-clause-untouched : goal.returns-clause-untouched
returns-clause-untouched g c = λ is. never_usage _ _ (Carries-status _ _ _ _ _ _ _ c.carry_out.ensures.carries) is

pub returns-clause-performs : goal.returns-clause-performs
returns-clause-performs g c =
    let calls = rw c.as_slice.ensures.value at (rw c.in-OnFile.is at c.in-Some.ensures) in
    OfSource-weaker _ (λ bytes. Loads bytes (Ok c.in-Ok.file)) _
    (λ bytes loaded. Performs-carried _ bytes _ (meant c.in-OnFile.on_file) (contents c.in-Ok.file) _ _ _ _ calls loaded c.carry_out.ensures.carries) c.in-Ok.ensures.loads

pub returns-clause-came : goal.returns-clause-came
returns-clause-came g c =
    let came = c.in-Ok.ensures.came in
    (came.0, IsCountFor-carried _ came.0 (Carries-status _ _ _ _ _ _ _ c.carry_out.ensures.carries) came.1, came.2)

pub returns-clause-to_the_end : goal.returns-clause-to_the_end
returns-clause-to_the_end g c = λ _. IsReadToEnd-carried _ _ _ (Carries-status _ _ _ _ _ _ _ c.carry_out.ensures.carries) c.in-Ok.ensures.to_the_end

pub returns-clause-rose : goal.returns-clause-rose
returns-clause-rose g c = λ is. never_reads _ _ (Carries-status _ _ _ _ _ _ _ c.carry_out.ensures.carries) is

pub returns-clause-one_result : goal.returns-clause-one_result
returns-clause-one_result g c =
    let calls = rw c.as_slice.ensures.value at (rw c.in-OnFile.is at c.in-Some.ensures) in
    λ bytes. HasOneResult-called _ bytes _ (meant c.in-OnFile.on_file) calls

pub carry_out-requires : goal.carry_out-requires
carry_out-requires g c = Calls-frames _ _ (meant c.in-OnFile.on_file) (rw c.in-OnFile.is at c.in-Some.ensures)

pub returns-in_default-clause-faithful : goal.returns-in_default-clause-faithful
returns-in_default-clause-faithful g c = of_any _ _ (λ bytes. misused _ bytes _ _)

pub returns-in-Err-clause-faithful : goal.returns-in-Err-clause-faithful
returns-in-Err-clause-faithful g c = OfSource-weaker _ (λ bytes. Loads bytes (Err c.in-Err.status)) _ (λ bytes loads. unloaded _ bytes c.in-Err.status _ _ loads) c.in-Err.ensures.loads

pub returns-clause-faithful : goal.returns-clause-faithful
returns-clause-faithful g c =
    let calls = rw c.as_slice.ensures.value at (rw c.in-OnFile.is at c.in-Some.ensures) in
    OfSource-weaker _ (λ bytes. Loads bytes (Ok c.in-Ok.file)) _ (λ bytes loaded. faithful _ bytes _ (meant c.in-OnFile.on_file) (contents c.in-Ok.file) _ _ _ calls loaded c.carry_out.ensures.lowers)
    c.in-Ok.ensures.loads

-- a self-test
pub returns-in-Selftest-clause-usage : goal.returns-in-Selftest-clause-usage
returns-in-Selftest-clause-usage g c =
    let test = rw c.in-Selftest.is at c.in-Some.ensures in
    let carried = IsTestStatus-carried _ (WritesSelfTest-status _ _ _ c.test_itself.ensures) in
    (λ is. never_usage _ _ carried is, λ never. absurd (never.self_test _ test))

pub returns-in-Selftest-clause-untouched : goal.returns-in-Selftest-clause-untouched
returns-in-Selftest-clause-untouched g c = λ is. never_usage _ _ (IsTestStatus-carried _ (WritesSelfTest-status _ _ _ c.test_itself.ensures)) is

pub returns-in-Selftest-clause-performs : goal.returns-in-Selftest-clause-performs
returns-in-Selftest-clause-performs g c =
    let test = rw c.in-Selftest.is at c.in-Some.ensures in
    of_any _ _ (λ bytes. Performs-tested c.reading_law.ensures.reads _ bytes _ c.in-Selftest.links _ _ _ _ test c.test_itself.ensures)

pub returns-in-Selftest-clause-came : goal.returns-in-Selftest-clause-came
returns-in-Selftest-clause-came g c = (0, IsCountFor-carried _ 0 (IsTestStatus-carried _ (WritesSelfTest-status _ _ _ c.test_itself.ensures)) (omega arith), takes_none _ _)

pub returns-in-Selftest-clause-to_the_end : goal.returns-in-Selftest-clause-to_the_end
returns-in-Selftest-clause-to_the_end g c =
    let test = rw c.in-Selftest.is at c.in-Some.ensures in
    λ no. absurd (no (c.in-Selftest.links, test))

pub returns-in-Selftest-clause-rose : goal.returns-in-Selftest-clause-rose
returns-in-Selftest-clause-rose g c = λ is. never_reads _ _ (IsTestStatus-carried _ (WritesSelfTest-status _ _ _ c.test_itself.ensures)) is

pub returns-in-Selftest-clause-one_result : goal.returns-in-Selftest-clause-one_result
returns-in-Selftest-clause-one_result g c =
    let test = rw c.in-Selftest.is at c.in-Some.ensures in
    λ bytes. HasOneResult-tested c.reading_law.ensures.reads _ bytes _ c.in-Selftest.links test

pub returns-in-Selftest-clause-faithful : goal.returns-in-Selftest-clause-faithful
returns-in-Selftest-clause-faithful g c =
    let test = rw c.in-Selftest.is at c.in-Some.ensures in
    of_any _ _ (λ bytes. no_lowering _ bytes c.in-Selftest.links _ _ _ test)

pub test_itself-requires-clause-least : goal.test_itself-requires-clause-least
test_itself-requires-clause-least g c = (rw c.in-Selftest.is at c.in-Some.ensures).links_said.at_least

pub test_itself-requires-clause-most : goal.test_itself-requires-clause-most
test_itself-requires-clause-most g c = (rw c.in-Selftest.is at c.in-Some.ensures).links_said.at_most

-- what reads something is no self-test
pub returns-in_default-clause-reads_nothing : goal.returns-in_default-clause-reads_nothing
returns-in_default-clause-reads_nothing g c =
    let none = rw c.as_slice.ensures.value at c.in_default.ensures in
    λ test. absurd (misuse_no_test _ _ none test)

pub returns-in-Err-clause-reads_nothing : goal.returns-in-Err-clause-reads_nothing
returns-in-Err-clause-reads_nothing g c =
    let calls = rw c.as_slice.ensures.value at (rw c.in-OnFile.is at c.in-Some.ensures) in
    λ test. absurd (calls_no_test _ _ _ calls test)

pub returns-in-Err-clause-to_the_end : goal.returns-in-Err-clause-to_the_end
returns-in-Err-clause-to_the_end g c = λ _. c.in-Err.ensures.to_the_end

pub returns-clause-reads_nothing : goal.returns-clause-reads_nothing
returns-clause-reads_nothing g c =
    let calls = rw c.as_slice.ensures.value at (rw c.in-OnFile.is at c.in-Some.ensures) in
    λ test. absurd (calls_no_test _ _ _ calls test)
