use Rattle.lh_ops.proofs.ArgLemmas.{eq_length, neq_length, repeat_length}
use Rattle.lh_ops.proofs.values.apply.Goals as goal

pub equal-requires : goal.equal-requires
equal-requires c = eq_length _ _ c.in-Eq.is c.requires

pub equal-requires-in-Neq : goal.equal-requires-in-Neq
equal-requires-in-Neq c = neq_length _ _ c.in-Neq.is c.requires

pub repeat-requires : goal.repeat-requires
repeat-requires c = repeat_length _ _ _ c.in-Repeat.is c.requires
