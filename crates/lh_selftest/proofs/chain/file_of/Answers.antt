use Rattle.std.proofs.Common.{sym, subst}
use Rattle.std.proofs.lemmas.Result.{IfOk-weaker}
use Rattle.lh_unit.specs.Arena.{Arena, contents}
use Rattle.lh_unit.specs.WellFormed.{IsFaultless}
use Rattle.lh_text_laws.proofs.Readings.{every_reading_is_spelled}
use Rattle.lh_selftest.specs.SelfTest.{HasDesign, RunsAs}
use Rattle.lh_selftest.proofs.Answer.{reads-starved}
use Rattle.lh_selftest.proofs.chain.file_of.Goals as goal

pub verified-requires : goal.verified-requires
verified-requires c =
    let ok = c.in-Ok.ensures in
    record {
      spelled = every_reading_is_spelled c.args.text.now (contents c.in-Ok.«module») ok.ok;
      faultless = subst IsFaultless (sym (ok.only c.requires.file c.requires.reads)) c.requires.faultless;
    }

pub wanting-requires : goal.wanting-requires
wanting-requires c = reads-starved c.in-Err.fault c.requires.file (c.in-Err.ensures.only c.requires.file c.requires.reads)

pub returns-in-Ok : goal.returns-in-Ok
returns-in-Ok c =
    let ok = c.in-Ok.ensures in
    let runs : RunsAs c.args.text.now (contents c.in-Ok.«module») = record { reads = ok.ok; has_design = subst HasDesign (sym (ok.only c.requires.file c.requires.reads)) c.requires.has_design } in
    IfOk-weaker c.verified.result _ _ (λ x e. subst (λ (a : Arena). RunsAs c.args.text.now (contents a)) (sym e) runs) c.verified.ensures
