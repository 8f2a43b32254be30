use Rattle.lh_unit.specs.Arena.{unit_name_at, unit_text_at}
use Rattle.lh_lower_copy.proofs.Texts.{both-named, names-undefined, unit-done}
use Rattle.lh_lower_copy.proofs.keeping.keep_unit.Goals as goal

pub keep_text-requires-clause-named : goal.keep_text-requires-clause-named
keep_text-requires-clause-named c =
    both-named c.args.from.now c.args.m.now c.name_values.new.m c.name_labels.new.m c.args.unit.0 c.requires.units c.in_ok-name_values.ensures c.in_ok-name_labels.ensures

pub keep_text-requires-clause-undefined : goal.keep_text-requires-clause-undefined
keep_text-requires-clause-undefined c =
    names-undefined (unit_name_at c.args.from.now c.args.unit.0) c.args.m.now c.name_values.new.m c.name_labels.new.m c.args.unit.0 c.in_ok-name_values.ensures.only c.in_ok-name_labels.ensures.only
    c.requires.undefined

pub returns : goal.returns
returns c =
    unit-done c.keep_text.result c.args.m.now c.name_values.new.m c.name_labels.new.m c.keep_text.new.m c.args.unit (unit_text_at c.args.from.now c.args.unit.0) c.in_ok-name_values.ensures.only
    c.in_ok-name_labels.ensures.only c.keep_text.ensures
