use Rattle.lh_unit_names.proofs.NameLists.{distinct-after}
use Rattle.lh_unit_names.proofs.table.NameTable.enter.Goals as goal

pub invariant_of-self-2 : goal.invariant_of-self-2
invariant_of-self-2 c = distinct-after _ _ _ c.enter.result c.enter.ensures.names c.enter.ensures.err (rw c.open.ensures.same c.self.invariant)
