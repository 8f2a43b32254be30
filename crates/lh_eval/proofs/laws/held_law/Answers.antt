use Rattle.lh_eval.proofs.HeldByIds.{holds-same, holds-more, holds-given, holds-nothing}
use Rattle.lh_eval.proofs.laws.held_law.Goals as goal

pub returns : goal.returns
returns c = record { same = holds-same; more = holds-more; given = holds-given; nothing = holds-nothing }
