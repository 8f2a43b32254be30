use Rattle.std.proofs.Common.{subst}
use Rattle.lh_unit.specs.Arena.{contents}
use Rattle.lh_unit.specs.Trace.{SameTrace}
use Rattle.lh_unit.specs.WellFormed.{IsWellFormed}
use Rattle.lh_run.proofs.lowering.texts_of.Goals as goal

pub returns-clause-keeps_trace : goal.returns-clause-keeps_trace
returns-clause-keeps_trace c =
    let says = c.in_ok-lowered.ensures.lowered.says in
    record {
      formed = c.module-2.ensures.formed;
      well_formed = subst IsWellFormed says c.module.ensures.formed;
      kept = c.lowering_law.ensures.kept (contents c.args.file.now);
      same = subst (SameTrace (contents c.args.file.now)) says c.in_ok-lowered.ensures.same_trace;
    }
