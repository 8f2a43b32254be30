use Rattle.std.proofs.Common.{◌<◌, sym, subst, length}
use Rattle.lh_unit.specs.Table.{Table}
use Rattle.lh_unit.proofs.Seen.{table-read}
use Rattle.lh_unit.proofs.module.Module.value_name.Goals as goal

pub value_name-requires : goal.value_name-requires
value_name-requires c = subst (λ (t : Table). c.args.value.0 < length t.values) (sym (table-read c.self.inside _ c.self.view_is _ c.requires.unit _ c.index.ensures)) c.requires.value
