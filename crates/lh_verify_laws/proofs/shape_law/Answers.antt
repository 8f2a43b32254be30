use Rattle.lh_verify_laws.proofs.ShapeLaw.{terminators_end, blocks_end_once, labels_are_blocks, phis_are_right, all_allowed}
use Rattle.lh_verify_laws.proofs.shape_law.Goals as goal

pub returns : goal.returns
returns c = record { terminators = terminators_end; blocks = blocks_end_once; labels = labels_are_blocks; phis = phis_are_right; allowed = all_allowed }
