use Rattle.lh_verify_laws.proofs.ResultsLaw.{results_have_types}
use Rattle.lh_verify_laws.proofs.ValuesLaw.{values_have_types}
use Rattle.lh_verify_laws.proofs.result_law.Goals as goal

pub returns : goal.returns
returns c = record { types = results_have_types; values = values_have_types }
