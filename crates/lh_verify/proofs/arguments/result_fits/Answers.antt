use Rattle.std.proofs.Common.{map, ap, sym, ◌∙◌}
use Rattle.lh_unit.specs.Naming.{operand_text, inst_text}
use Rattle.lh_unit.specs.WellFormed.{result_fits}
use Rattle.lh_verify_values.specs.Facts.{naming_in, items_in}
use Rattle.lh_verify.proofs.arguments.result_fits.Goals as goal

pub returns-in-Call : goal.returns-in-Call
returns-in-Call c = c.call_result_fits.ensures (map (operand_text (naming_in c.args.scope.now)) c.in-Call.args)
    ∙ ap (λ i. result_fits (items_in c.args.scope.now) (inst_text (naming_in c.args.scope.now) i)) (sym c.in-Call.is)
