use Rattle.lh_kernel.proofs.Seen.{seen_senses}
use Rattle.lh_kernel.proofs.sim.Sim.sensing.Goals as goal

pub returns-clause-senses : goal.returns-clause-senses
returns-clause-senses c = seen_senses c.self.inside.machine c.self.inside.ended c.args.self.now c.args.signal c.sensing.result.now c.self.view_is c.self.invariant c.sensing.ensures.same
