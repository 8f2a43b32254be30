use Rattle.lh_emit.proofs.TermParts.{parts-copied}
use Rattle.lh_emit.proofs.making.parts_of.Goals as goal

pub returns-in-Array : goal.returns-in-Array
returns-in-Array c = parts-copied c.args.v.now c.in-Array.vs c.copy.result c.in-Array.is c.copy.ensures
