use Rattle.std.proofs.lemmas.Result.{IfOk-weaker}
use Rattle.lh_unit.specs.Arena.{contents}
use Rattle.lh_lower_def.specs.Lowering.{lowered}
use Rattle.lh_selftest_design.specs.Summary.{IsSummaryOf}
use Rattle.lh_selftest.specs.SelfTest.{IsSelfTest, units_of}
use Rattle.lh_selftest.proofs.Answer.{is_self_test}
use Rattle.lh_run.proofs.selftest.selftest.Goals as goal

pub answered-text-requires : goal.answered-text-requires
answered-text-requires c = c.in_ok-file.ensures.runs.has_design

pub returns : goal.returns
returns c =
    let file = contents c.in_ok-file.file in
    IfOk-weaker c.answered-text.result (λ text. IsSummaryOf file (lowered file) (units_of file) text.items) (λ text. IsSelfTest c.args.links text.items)
    (λ text s. is_self_test c.args.links file text.items c.in_ok-file.ensures s) c.answered-text.ensures
