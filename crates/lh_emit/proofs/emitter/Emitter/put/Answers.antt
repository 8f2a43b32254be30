use Rattle.lh_emit.proofs.Puts.{puts-inst}
use Rattle.lh_emit.proofs.emitter.Emitter.put.Goals as goal

pub returns : goal.returns
returns c = puts-inst c.args.self.now c.args.inst c.put.new.self c.put.result c.put.ensures
