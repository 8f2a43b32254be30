use Rattle.lh_ops.proofs.WordLemmas.{masked}
use Rattle.lh_ops.proofs.words.cut.Goals as goal

pub returns : goal.returns
returns c = masked c.args.width c.args.x c.ones.result c.ones.ensures
