use Rattle.std.proofs.Common.{Some, ap, sym, ◌∙◌}
use Rattle.std.specs.Option.{option_copied}
use Rattle.lh_types.specs.Same.{same-is}
use Rattle.lh_verify_values.proofs.numbers.Types.checked.Goals as goal

pub returns-in-Some-clause-number : goal.returns-in-Some-clause-number
returns-in-Some-clause-number c = sym c.get.ensures ∙ ap option_copied c.in-Some.is ∙ ap Some (same-is _ _ (sym c.eq.ensures ∙ c.if-eq.true))
