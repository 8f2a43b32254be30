use Rattle.lh_emit.proofs.GivenLines.{inst-no-memory}
use Rattle.lh_emit.proofs.emitter.Emitter.probe_inst.Goals as goal

pub returns-in_err-part : goal.returns-in_err-part
returns-in_err-part c = inst-no-memory c.args.terms.now c.args.origin.now c.args.self.now c.args.t c.args.terms.now c.args.self.now c.from_residual.result c.from_residual.ensures.1
