-- Due instants are later than their starts, and keep their order.
use Rattle.std.proofs.Common.{arith}
use Rattle.std.proofs.lemmas.Grind.{common_steps}
use Rattle.lh_time.specs.Laws.{DueIsLater, DueKeepsOrder}

-- an instant that is due is later than its start
pub due_is_later : DueIsLater
due_is_later t u d e = grind (arith, common_steps)

-- due instants of one delay keep the order of their starts
pub due_keeps_order : DueKeepsOrder
due_keeps_order = grind (arith, common_steps)
