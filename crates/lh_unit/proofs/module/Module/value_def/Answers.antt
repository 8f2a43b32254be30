use Rattle.std.proofs.Common.{◌<◌, sym, subst, length}
use Rattle.lh_unit.specs.Table.{Table, IsDefinition}
use Rattle.lh_unit.proofs.Seen.{table-read}
use Rattle.lh_unit.proofs.module.Module.value_def.Goals as goal

pub value_def-requires : goal.value_def-requires
value_def-requires c = subst (λ (t : Table). c.args.value.0 < length t.values) (sym (table-read c.self.inside _ c.self.view_is _ c.requires.unit _ c.index.ensures)) c.requires.value

pub returns-clause-definition : goal.returns-clause-definition
returns-clause-definition c = subst (λ (t : Table). IsDefinition t c.args.value.0 c.value_def.result) (table-read c.self.inside _ c.self.view_is _ c.requires.unit _ c.index.ensures) c.value_def.ensures
