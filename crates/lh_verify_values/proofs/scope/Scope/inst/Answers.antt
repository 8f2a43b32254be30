use Rattle.lh_verify_values.proofs.ScopeParts.{placed-in}
use Rattle.lh_verify_values.proofs.scope.Scope.inst.Goals as goal

pub returns-clause-placed : goal.returns-clause-placed
returns-clause-placed c = placed-in c.args.self.now c.inst.result.now c.inst.ensures.placed
