use Rattle.std.proofs.Common.{◌<◌, drop}
use Rattle.lh_unit.specs.Arena.{inst_count}
use Rattle.lh_unit.specs.Within.{Each}
use Rattle.lh_unit.specs.declared.inst.InstId.{InstId}
use Rattle.lh_term.specs.Arena.{Grows}
use Rattle.lh_cert_read.proofs.Lines.{Midway}
use Rattle.lh_cert_read.proofs.reading.Reading.take_all.Given as goal

abbrev pub invariant-loop-inst : goal.invariant-loop-inst
invariant-loop-inst l = record {
  within : Each (λ (i : InstId). i.0 < inst_count l.unit.module.now l.unit.unit.0) (drop l.inst-index l.inst-items);
  grows : Grows l.initial.terms l.terms;
  midway : Midway l.unit.module.now l.unit.unit.0 l.terms l.self (drop l.inst-index l.inst-items);
}
