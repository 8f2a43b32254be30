use Rattle.lh_edge.proofs.Ids.{many_connected}
use Rattle.lh_edge.proofs.table.connected.Goals as goal

pub returns-in_default-2 : goal.returns-in_default-2
returns-in_default-2 c = many_connected _ _ _ c.in_default.len_at_least
