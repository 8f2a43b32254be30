use Rattle.std.proofs.Common.{ap, sym, ◌∙◌}
use Rattle.lh_unit_names.specs.UnitNames.{is_assert}
use Rattle.lh_verify.specs.OperandTests.{is_function_kind}
use Rattle.lh_verify.proofs.OtherUnits.{unit-within, unit-name, function-in, either-first, either-second}
use Rattle.lh_verify.proofs.units.names_function.Goals as goal

pub kind-requires : goal.kind-requires
kind-requires c = unit-within c.args.scope.now c.args.unit.0 c.requires.within

pub unit_name-requires : goal.unit_name-requires
unit_name-requires c = unit-within c.args.scope.now c.args.unit.0 c.requires.within

pub returns-then-is_function : goal.returns-then-is_function
returns-then-is_function c = either-first _ _ (ap is_function_kind (sym c.kind.ensures.kind) ∙ sym c.is_function.ensures ∙ c.if-is_function.true)
    ∙ sym (function-in c.args.scope.now c.args.unit.0 c.kind.ensures.sound c.requires.within)

pub returns : goal.returns
returns c = either-second _ _ _ (ap is_function_kind (sym c.kind.ensures.kind) ∙ sym c.is_function.ensures ∙ c.if-is_function.false) (c.is_assert.ensures
    ∙ ap is_assert (c.unit_name.ensures.name ∙ sym (unit-name c.args.scope.now c.args.unit.0))) ∙ sym (function-in c.args.scope.now c.args.unit.0 c.kind.ensures.sound c.requires.within)
