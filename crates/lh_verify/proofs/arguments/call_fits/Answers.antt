use Rattle.std.proofs.Common.{map, ap, sym, ◌∙◌}
use Rattle.std.specs.Prelude.{filter}
use Rattle.lh_unit_names.specs.UnitNames.{is_assert}
use Rattle.lh_unit.specs.Naming.{operand_text, arg_text}
use Rattle.lh_unit.specs.Arena.{naming, args_at}
use Rattle.lh_unit.specs.WellFormed.{arguments_fit, assert_args}
use Rattle.lh_verify_values.specs.Facts.{text_in, naming_in}
use Rattle.lh_verify.specs.OperandTests.{on_side}
use Rattle.lh_verify.specs.declared.arguments.Side.TheVariants.{All}
use Rattle.lh_verify.proofs.NumbersKept.{numbers-of}
use Rattle.lh_verify.proofs.OtherUnits.{unit-within, unit-name, args-assert, differ-some, differ-none, params-in, no-params, all-on}
use Rattle.lh_verify.proofs.arguments.call_fits.Goals as goal

pub unit_name-requires : goal.unit_name-requires
unit_name-requires c = unit-within c.args.scope.now c.args.unit.0 c.requires.unit

pub args-params-requires : goal.args-params-requires
args-params-requires c = unit-within c.args.scope.now c.args.unit.0 c.requires.unit

pub side_fits-requires-clause-numbers : goal.side_fits-requires-clause-numbers
side_fits-requires-clause-numbers c = numbers-of c.args.scope.now.types.now _ (args_at c.args.scope.now.module.now c.args.unit.0) _ c.args-params.ensures.args c.params_of.ensures

pub returns-then-is_assert : goal.returns-then-is_assert
returns-then-is_assert c =
    let s = c.args.scope.now in
    differ-some (arguments_fit (text_in s) (map (operand_text (naming_in s)) c.args.args.now)) _ assert_args _
    (args-assert s c.args.unit.0 (ap is_assert (unit-name s c.args.unit.0 ∙ sym c.unit_name.ensures.name) ∙ sym c.is_assert.ensures ∙ c.if-is_assert.true)) c.fits_assert.ensures

pub returns-then-not-is_defined : goal.returns-then-not-is_defined
returns-then-not-is_defined c =
    let s = c.args.scope.now in
    differ-none (arguments_fit (text_in s) (map (operand_text (naming_in s)) c.args.args.now)) _
    (no-params s c.args.unit.0 c.unit_name.ensures.sound c.requires.unit (ap is_assert (unit-name s c.args.unit.0 ∙ sym c.unit_name.ensures.name) ∙ sym c.is_assert.ensures ∙ c.if-is_assert.false)
    (sym c.is_defined.ensures.defined ∙ c.if-not-is_defined.true))

pub returns : goal.returns
returns c =
    let s = c.args.scope.now in
    let f = naming s.module.now c.args.unit.0 in
    differ-some (arguments_fit (text_in s) (map (operand_text (naming_in s)) c.args.args.now)) _ (map (arg_text f) (args_at s.module.now c.args.unit.0)) _
    (params-in s c.args.unit.0 c.unit_name.ensures.sound c.requires.unit (ap is_assert (unit-name s c.args.unit.0 ∙ sym c.unit_name.ensures.name) ∙ sym c.is_assert.ensures ∙ c.if-is_assert.false)
    (sym c.is_defined.ensures.defined ∙ c.if-not-is_defined.false))
    (c.side_fits.ensures f ∙ ap (arguments_fit (text_in s) (map (operand_text (naming_in s)) c.args.args.now)) (ap (λ l. filter (on_side All) (map (arg_text f) l)) c.args-params.ensures.args
    ∙ all-on (map (arg_text f) (args_at s.module.now c.args.unit.0))))
