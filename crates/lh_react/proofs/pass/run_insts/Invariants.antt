use Rattle.std.proofs.Common.{◌<◌, drop, length}
use Rattle.lh_unit.specs.Arena.{inst_count, unit_text_at}
use Rattle.lh_unit.specs.Pass.{Passed}
use Rattle.lh_unit.specs.Within.{Each}
use Rattle.lh_unit.specs.declared.inst.InstId.{InstId}
use Rattle.lh_eval.specs.Sound.{InstIsSound}
use Rattle.lh_react.specs.Standing.{StandsForPass, RunFits, ContinuesPass, line_in, passed_all}
use Rattle.lh_react.proofs.pass.run_insts.Given as goal

abbrev pub invariant-loop-inst : goal.invariant-loop-inst
invariant-loop-inst l = record {
  fit : RunFits l.m l.unit.0 (length l.now) l.run;
  within : Each (λ (i : InstId). i.0 < inst_count l.m l.unit.0) (drop l.inst-index l.insts);
  sound : Each (λ (i : InstId). InstIsSound (unit_text_at l.m l.unit.0) (line_in l.m l.unit.0 i)) (drop l.inst-index l.insts);
  goes : (p : Passed) → StandsForPass l.m l.unit.0 p l.initial.run → ContinuesPass l.m l.unit.0 l.now l.state.memory l.at l.run (drop l.inst-index l.insts)
      (passed_all l.m l.unit.0 l.now l.state.memory l.at p l.insts);
}
