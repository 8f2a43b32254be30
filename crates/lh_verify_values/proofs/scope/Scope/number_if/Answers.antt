use Rattle.std.proofs.Common.{◌≡◌, false, ap, sym, ◌∙◌}
use Rattle.std.specs.Option.{option_map_or}
use Rattle.lh_types.specs.Types.{same_type}
use Rattle.lh_verify_values.proofs.TypeNumbers.{number-at, number-off}
use Rattle.lh_verify_values.proofs.scope.Scope.number_if.Goals as goal

pub returns-in-Some-clause-has : goal.returns-in-Some-clause-has
returns-in-Some-clause-has c = c.checked.ensures.is
    ∙ ap (λ o. option_map_or (λ s. same_type s c.args.ty.now) o false) (number-at c.args.self.now.types.now c.fact.result.now.ty c.in-Some.number _ c.fact.ensures.ty c.in-Some.is)

pub returns-in-None-clause-has : goal.returns-in-None-clause-has
returns-in-None-clause-has c = ap (λ o. option_map_or (λ s. same_type s c.args.ty.now) o false) (sym (number-off c.args.self.now.types.now c.fact.result.now.ty _ c.fact.ensures.ty c.in-None.is))
