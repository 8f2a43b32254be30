use Rattle.std.proofs.Common.{sym, ◌∙◌}
use Rattle.lh_verify.proofs.FirstAt.{none-hides}
use Rattle.lh_verify.proofs.unit.are_hidden.Goals as goal

pub returns-in-None : goal.returns-in-None
returns-in-None c = sym (none-hides c.args.scope.now c.args.places.now (sym c.requires.found ∙ c.in-None.is))
