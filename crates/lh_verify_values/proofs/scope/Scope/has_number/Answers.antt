use Rattle.std.proofs.Common.{◌≡◌, false, ap, sym}
use Rattle.std.specs.Option.{option_map_or}
use Rattle.lh_types.specs.Types.{same_type}
use Rattle.lh_verify_values.proofs.TypeNumbers.{number-off, same-at}
use Rattle.lh_verify_values.proofs.scope.Scope.has_number.Goals as goal

pub returns-in-Some : goal.returns-in-Some
returns-in-Some c = same-at c.args.self.now.types.now c.in-Some.number c.args.of.now.number _ c.args.of.now.ty.now _ c.requires.number c.fact.ensures.ty c.in-Some.is c.same.ensures

pub returns-in-None : goal.returns-in-None
returns-in-None c = ap (λ o. option_map_or (λ s. same_type s c.args.of.now.ty.now) o false) (sym (number-off c.args.self.now.types.now c.fact.result.now.ty _ c.fact.ensures.ty c.in-None.is))
