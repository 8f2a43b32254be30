use Rattle.std.proofs.Common.{length, ap, ◌∙◌}
use Rattle.lh_unit.specs.Arena.{value_count}
use Rattle.lh_flat.proofs.BuilderRoom.{length-own_ids}
use Rattle.lh_flat.proofs.flatten.text_of.Goals as goal

pub new-requires-clause-values : goal.new-requires-clause-values
new-requires-clause-values c = ap length c.in_ok-own_ids.ensures ∙ length-own_ids (value_count c.args.view.module.now c.args.view.unit.0)
