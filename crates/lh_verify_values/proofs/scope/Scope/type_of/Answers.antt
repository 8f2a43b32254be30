use Rattle.std.proofs.Common.{sym, ◌∙◌}
use Rattle.lh_verify_values.proofs.TypeNumbers.{number-at, number-off}
use Rattle.lh_verify_values.proofs.scope.Scope.type_of.Goals as goal

pub returns-in-Some : goal.returns-in-Some
returns-in-Some c = c.get.ensures ∙ number-at c.args.self.now.types.now c.fact.result.now.ty c.in-Some.number _ c.fact.ensures.ty c.in-Some.is

pub returns-in-None : goal.returns-in-None
returns-in-None c = sym (number-off c.args.self.now.types.now c.fact.result.now.ty _ c.fact.ensures.ty c.in-None.is)
