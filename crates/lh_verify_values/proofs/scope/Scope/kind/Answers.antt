use Rattle.std.proofs.Common.{ap, sym, ◌∙◌}
use Rattle.lh_unit.specs.Naming.{kind_text}
use Rattle.lh_verify_values.proofs.ScopeParts.{kind-in}
use Rattle.lh_verify_values.proofs.scope.Scope.kind.Goals as goal

pub returns-in-Some : goal.returns-in-Some
returns-in-Some c = ap kind_text (sym c.in-Some.is ∙ c.kind.ensures.kind) ∙ kind-in c.args.self.now

pub returns-in-None : goal.returns-in-None
returns-in-None c = ap kind_text (sym c.in-None.is ∙ c.kind.ensures.kind) ∙ kind-in c.args.self.now
