use Rattle.lh_ops.proofs.ArgLemmas.{shl_length}
use Rattle.lh_ops.proofs.rows.shl.Goals as goal

pub bounds-args-2 : goal.bounds-args-2
bounds-args-2 c = shl_length c.args.args.now c.requires
