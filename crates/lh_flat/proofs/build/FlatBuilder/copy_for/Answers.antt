use Rattle.std.proofs.Common.{length, ap, ◌∙◌}
use Rattle.lh_unit.specs.Arena.{table_at}
use Rattle.lh_flat.proofs.BuilderRoom.{length-new_ids}
use Rattle.lh_flat.proofs.build.FlatBuilder.copy_for.Goals as goal

pub new-requires-clause-values : goal.new-requires-clause-values
new-requires-clause-values c = ap length c.in_ok-values.ensures ∙ length-new_ids (table_at c.unit-view.result.module.now c.unit-view.result.unit.0) c.as_slice.result.now c.args.self.now.values
