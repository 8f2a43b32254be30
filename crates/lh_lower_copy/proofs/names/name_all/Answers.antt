use Rattle.std.proofs.Common.{[], slice_index_or}
use Rattle.lh_lower_copy.proofs.NamesById.{values-start}
use Rattle.lh_lower_copy.proofs.names.name_all.Goals as goal

pub loop-name-init : goal.loop-name-init
loop-name-init c = values-start c.args.m.now c.args.unit.0 (λ v. slice_index_or c.args.names.now v []) c.requires.none
