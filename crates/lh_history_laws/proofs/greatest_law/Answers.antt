use Rattle.lh_history_laws.proofs.Greatest.{greatest_is_found, greatest_are_level}
use Rattle.lh_history_laws.proofs.greatest_law.Goals as goal

pub returns : goal.returns
returns c = record { found = greatest_is_found; level = greatest_are_level }
