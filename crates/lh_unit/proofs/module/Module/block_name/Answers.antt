use Rattle.std.proofs.Common.{◌<◌, sym, subst, length}
use Rattle.lh_unit.specs.Table.{Table}
use Rattle.lh_unit.proofs.Seen.{table-read}
use Rattle.lh_unit.proofs.module.Module.block_name.Goals as goal

pub block_name-requires : goal.block_name-requires
block_name-requires c = subst (λ (t : Table). c.args.block.0 < length t.labels) (sym (table-read c.self.inside _ c.self.view_is _ c.requires.unit _ c.index.ensures)) c.requires.block
