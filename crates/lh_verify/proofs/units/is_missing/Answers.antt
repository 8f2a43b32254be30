use Rattle.std.proofs.Common.{ap, sym, ◌∙◌}
use Rattle.lh_unit_names.specs.UnitNames.{is_assert}
use Rattle.lh_verify.proofs.OtherUnits.{unit-within, unit-name, defined-in, missing-some, missing-none}
use Rattle.lh_verify.proofs.units.is_missing.Goals as goal

pub unit_name-requires : goal.unit_name-requires
unit_name-requires c = unit-within c.args.scope.now c.args.unit.0 c.requires.within

pub returns-then-is_defined : goal.returns-then-is_defined
returns-then-is_defined c = missing-some _ _ (defined-in c.args.scope.now c.args.unit.0 c.is_defined.ensures.sound c.requires.within ∙ sym c.is_defined.ensures.defined ∙ c.if-is_defined.true)

pub returns : goal.returns
returns c = missing-none _ _ _ (defined-in c.args.scope.now c.args.unit.0 c.unit_name.ensures.sound c.requires.within ∙ sym c.is_defined.ensures.defined ∙ c.if-is_defined.false)
    (c.is_assert.ensures ∙ ap is_assert (c.unit_name.ensures.name ∙ sym (unit-name c.args.scope.now c.args.unit.0)))
