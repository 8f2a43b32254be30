use Rattle.std.proofs.Common.{◌≡◌, map, drop}
use Rattle.std.specs.List.{list_all}
use Rattle.lh_unit.specs.Naming.{operand_text}
use Rattle.lh_verify_types.specs.Fitting.{field_fits}
use Rattle.lh_verify_values.specs.Facts.{text_in, naming_in}
use Rattle.lh_verify_types.proofs.operations.fields_fit.Given as goal

abbrev pub invariant-loop-operand : goal.invariant-loop-operand
invariant-loop-operand l = list_all (field_fits (text_in l.scope)) (map (operand_text (naming_in l.scope)) (drop l.operand-index l.args))
    ≡ list_all (field_fits (text_in l.scope)) (map (operand_text (naming_in l.scope)) l.args)
