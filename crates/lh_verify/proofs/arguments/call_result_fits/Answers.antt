use Rattle.std.proofs.Common.{true, ap, sym, ◌∙◌}
use Rattle.std.specs.Option.{option_map_or, option_copied}
use Rattle.lh_types.specs.Types.{same_type}
use Rattle.lh_unit_names.specs.UnitNames.{is_assert}
use Rattle.lh_verify.proofs.OtherUnits.{unit-within, unit-name, result-of, choose-then, choose-else}
use Rattle.lh_verify.proofs.arguments.call_result_fits.Goals as goal

pub unit_name-requires : goal.unit_name-requires
unit_name-requires c = unit-within c.args.scope.now c.args.unit.0 c.requires.unit

pub result-requires : goal.result-requires
result-requires c = unit-within c.args.scope.now c.args.unit.0 c.requires.unit

pub returns-then-is_assert : goal.returns-then-is_assert
returns-then-is_assert c = λ args. choose-then _ _ _ _ (ap is_assert (unit-name c.args.scope.now c.args.unit.0 ∙ sym c.unit_name.ensures.name) ∙ sym c.is_assert.ensures ∙ c.if-is_assert.true)
    c.is_void.ensures

pub returns-in-Some : goal.returns-in-Some
returns-in-Some c = λ args. choose-else _ _ _ _ (ap is_assert (unit-name c.args.scope.now c.args.unit.0 ∙ sym c.unit_name.ensures.name) ∙ sym c.is_assert.ensures ∙ c.if-is_assert.false)
    (c.eq.ensures ∙ ap (λ o. option_map_or (same_type c.args.ty.now) o true) (sym (ap option_copied c.in-Some.is) ∙ c.result.ensures.ty)
    ∙ sym (result-of c.args.scope.now c.args.unit.0 c.result.ensures.sound c.requires.unit c.args.ty.now))

pub returns-in-None : goal.returns-in-None
returns-in-None c = λ args. choose-else _ _ _ _ (ap is_assert (unit-name c.args.scope.now c.args.unit.0 ∙ sym c.unit_name.ensures.name) ∙ sym c.is_assert.ensures ∙ c.if-is_assert.false)
    (ap (λ o. option_map_or (same_type c.args.ty.now) o true) (sym (ap option_copied c.in-None.is) ∙ c.result.ensures.ty)
    ∙ sym (result-of c.args.scope.now c.args.unit.0 c.result.ensures.sound c.requires.unit c.args.ty.now))
