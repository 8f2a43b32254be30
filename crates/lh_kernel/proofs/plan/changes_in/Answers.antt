use Rattle.lh_kernel.proofs.LookedBits.{looked_width}
use Rattle.lh_kernel.proofs.plan.changes_in.Goals as goal

pub all_changes-requires-clause-width : goal.all_changes-requires-clause-width
all_changes-requires-clause-width c = looked_width c.args.x.now c.args.at c.args.touched.now c.requires.looked

pub changes_among-requires-clause-width : goal.changes_among-requires-clause-width
changes_among-requires-clause-width c = looked_width c.args.x.now c.args.at c.args.touched.now c.requires.looked
