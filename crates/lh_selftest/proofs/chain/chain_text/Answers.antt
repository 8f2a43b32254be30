use Rattle.std.proofs.Common.{sym, subst}
use Rattle.std.proofs.lemmas.Result.{IfOk-weaker}
use Rattle.lh_selftest_design.specs.Generated.{generated}
use Rattle.lh_selftest_laws.specs.Chain.{chain_file}
use Rattle.lh_selftest.specs.SelfTest.{CanRun, IsTextOf}
use Rattle.lh_selftest.proofs.chain.chain_text.Goals as goal

pub returns-clause-is : goal.returns-clause-is
unfolding IsTextOf
returns-clause-is c = c.generated.ensures

pub returns-clause-can_run : goal.returns-clause-can_run
returns-clause-can_run c =
    let n = c.args.links in
    let design = c.elaborates_law.ensures.elaborates n c.requires.few in
    let runs : CanRun (generated n) = record {
      short = c.reading_law.ensures.short n c.requires.few;
      file = chain_file n;
      reads = c.reading_law.ensures.reads n c.requires.few;
      faultless = c.well_formed_law.ensures.faultless n c.requires.some c.requires.few;
      has_design = record { design = design.0; is = design.1 };
    } in
    IfOk-weaker c.generated.result _ _ (λ x e. subst CanRun (sym e) runs) c.generated.ensures
