use Rattle.lh_ops.proofs.ArgLemmas.{shr_length}
use Rattle.lh_ops.proofs.rows.shr.Goals as goal

pub bounds-args-2 : goal.bounds-args-2
bounds-args-2 c = shr_length c.args.args.now c.requires
