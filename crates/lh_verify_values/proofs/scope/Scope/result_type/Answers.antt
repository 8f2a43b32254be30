use Rattle.std.proofs.Common.{◌∙◌}
use Rattle.lh_verify_values.proofs.ScopeParts.{result-in}
use Rattle.lh_verify_values.proofs.scope.Scope.result_type.Goals as goal

pub returns : goal.returns
returns c = c.result.ensures.ty ∙ result-in c.args.self.now
