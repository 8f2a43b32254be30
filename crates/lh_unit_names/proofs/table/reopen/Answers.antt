use Rattle.std.proofs.Common.{subst}
use Rattle.lh_unit_names.specs.Distinct.{AllDistinct}
use Rattle.lh_unit_names.specs.NameTables.{names_of}
use Rattle.lh_unit_names.proofs.table.reopen.Goals as goal

pub indexed-requires : goal.indexed-requires
indexed-requires c = subst (λ k. AllDistinct (names_of k)) c.in-Listed.is c.requires
