use Rattle.std.proofs.Common.{◌&&◌, map, ap, sym, ◌∙◌}
use Rattle.lh_unit_names.specs.UnitNames.{is_assert}
use Rattle.lh_unit.specs.Naming.{operand_text, arg_text}
use Rattle.lh_unit.specs.Arena.{naming, args_at}
use Rattle.lh_unit.specs.WellFormed.{arguments_fit, inputs_of, outputs_of, assert_args}
use Rattle.lh_verify_values.specs.Facts.{text_in, naming_in}
use Rattle.lh_verify.proofs.NumbersKept.{numbers-of}
use Rattle.lh_verify.proofs.OtherUnits.{unit-within, unit-name, args-assert, differ-some, differ-none, params-in, no-params, both-first, both-second}
use Rattle.lh_verify.proofs.arguments.ports_fit.Goals as goal

pub unit_name-requires : goal.unit_name-requires
unit_name-requires c = unit-within c.args.scope.now c.args.unit.0 c.requires.unit

pub args-params-requires : goal.args-params-requires
args-params-requires c = unit-within c.args.scope.now c.args.unit.0 c.requires.unit

pub side_fits-requires-clause-numbers : goal.side_fits-requires-clause-numbers
side_fits-requires-clause-numbers c = numbers-of c.args.scope.now.types.now _ (args_at c.args.scope.now.module.now c.args.unit.0) _ c.args-params.ensures.args c.params_of-numbers.ensures

pub side_fits-requires-2-clause-numbers : goal.side_fits-requires-2-clause-numbers
side_fits-requires-2-clause-numbers c = numbers-of c.args.scope.now.types.now _ (args_at c.args.scope.now.module.now c.args.unit.0) _ c.args-params.ensures.args c.params_of-numbers.ensures

pub returns-then-not-fits_assert : goal.returns-then-not-fits_assert
returns-then-not-fits_assert c =
    let s = c.args.scope.now in
    let g = map (operand_text (naming_in s)) in
    differ-some (λ ps. arguments_fit (text_in s) (g c.args.inputs.now) (inputs_of ps) && arguments_fit (text_in s) (g c.args.outputs.now) (outputs_of ps)) _ assert_args _
    (args-assert s c.args.unit.0 (ap is_assert (unit-name s c.args.unit.0 ∙ sym c.unit_name.ensures.name) ∙ sym c.is_assert.ensures ∙ c.if-is_assert.true))
    (both-first _ _ (sym c.fits_assert.ensures ∙ c.if-not-fits_assert.true))

pub returns-then-is_assert : goal.returns-then-is_assert
returns-then-is_assert c =
    let s = c.args.scope.now in
    let g = map (operand_text (naming_in s)) in
    differ-some (λ ps. arguments_fit (text_in s) (g c.args.inputs.now) (inputs_of ps) && arguments_fit (text_in s) (g c.args.outputs.now) (outputs_of ps)) _ assert_args _
    (args-assert s c.args.unit.0 (ap is_assert (unit-name s c.args.unit.0 ∙ sym c.unit_name.ensures.name) ∙ sym c.is_assert.ensures ∙ c.if-is_assert.true))
    (both-second _ _ _ (sym c.fits_assert.ensures ∙ c.if-not-fits_assert.false) c.fits_nothing.ensures)

pub returns-then-not-is_defined : goal.returns-then-not-is_defined
returns-then-not-is_defined c =
    let s = c.args.scope.now in
    let g = map (operand_text (naming_in s)) in
    differ-none (λ ps. arguments_fit (text_in s) (g c.args.inputs.now) (inputs_of ps) && arguments_fit (text_in s) (g c.args.outputs.now) (outputs_of ps)) _
    (no-params s c.args.unit.0 c.unit_name.ensures.sound c.requires.unit (ap is_assert (unit-name s c.args.unit.0 ∙ sym c.unit_name.ensures.name) ∙ sym c.is_assert.ensures ∙ c.if-is_assert.false)
    (sym c.is_defined.ensures.defined ∙ c.if-not-is_defined.true))

pub returns-then-not-side_fits : goal.returns-then-not-side_fits
returns-then-not-side_fits c =
    let s = c.args.scope.now in
    let g = map (operand_text (naming_in s)) in
    let f = naming s.module.now c.args.unit.0 in
    differ-some (λ ps. arguments_fit (text_in s) (g c.args.inputs.now) (inputs_of ps) && arguments_fit (text_in s) (g c.args.outputs.now) (outputs_of ps)) _
    (map (arg_text f) (args_at s.module.now c.args.unit.0)) _
    (params-in s c.args.unit.0 c.unit_name.ensures.sound c.requires.unit (ap is_assert (unit-name s c.args.unit.0 ∙ sym c.unit_name.ensures.name) ∙ sym c.is_assert.ensures ∙ c.if-is_assert.false)
    (sym c.is_defined.ensures.defined ∙ c.if-not-is_defined.false))
    (both-first _ _ (ap (λ l. arguments_fit (text_in s) (g c.args.inputs.now) (inputs_of (map (arg_text f) l))) (sym c.args-params.ensures.args) ∙ sym (c.side_fits.ensures f)
    ∙ c.if-not-side_fits.true))

pub returns : goal.returns
returns c =
    let s = c.args.scope.now in
    let g = map (operand_text (naming_in s)) in
    let f = naming s.module.now c.args.unit.0 in
    differ-some (λ ps. arguments_fit (text_in s) (g c.args.inputs.now) (inputs_of ps) && arguments_fit (text_in s) (g c.args.outputs.now) (outputs_of ps)) _
    (map (arg_text f) (args_at s.module.now c.args.unit.0)) _
    (params-in s c.args.unit.0 c.unit_name.ensures.sound c.requires.unit (ap is_assert (unit-name s c.args.unit.0 ∙ sym c.unit_name.ensures.name) ∙ sym c.is_assert.ensures ∙ c.if-is_assert.false)
    (sym c.is_defined.ensures.defined ∙ c.if-not-is_defined.false))
    (both-second _ _ _ (ap (λ l. arguments_fit (text_in s) (g c.args.inputs.now) (inputs_of (map (arg_text f) l))) (sym c.args-params.ensures.args) ∙ sym (c.side_fits.ensures f)
    ∙ c.if-not-side_fits.false)
    (c.side_fits-2.ensures f ∙ ap (λ l. arguments_fit (text_in s) (g c.args.outputs.now) (outputs_of (map (arg_text f) l))) c.args-params.ensures.args))
