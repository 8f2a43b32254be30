use Rattle.lh_flat_laws.proofs.CallSearch.{recursion-found, recursion-refused}
use Rattle.lh_flat_laws.proofs.laws.recursion_law.Goals as goal

pub returns : goal.returns
returns c = record { search = recursion-found; refusal = recursion-refused }
