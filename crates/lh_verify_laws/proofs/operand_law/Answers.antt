use Rattle.lh_verify_laws.proofs.OperandsLaw.{operands_are_defined, operands_are_taken, types_fit_all}
use Rattle.lh_verify_laws.proofs.RowsLaw.{rows_are}
use Rattle.lh_verify_laws.proofs.KindsLaw.{operands_have_types}
use Rattle.lh_verify_laws.proofs.operand_law.Goals as goal

pub returns : goal.returns
returns c = record { defined = operands_are_defined; kinds = operands_are_taken; fit = types_fit_all; rows = rows_are; types = operands_have_types }
