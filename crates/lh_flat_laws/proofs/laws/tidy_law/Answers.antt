use Rattle.lh_flat_laws.proofs.TidyUnits.{functions_are_tidy, processes_are_tidy}
use Rattle.lh_flat_laws.proofs.laws.tidy_law.Goals as goal

pub returns : goal.returns
returns c = record { functions = functions_are_tidy; processes = processes_are_tidy }
