use Rattle.lh_term.specs.Arena.{trees, tree_at}
use Rattle.lh_region.proofs.BranchConditions.{takes-not}
use Rattle.lh_region.proofs.branch.not.Goals as goal

pub op-requires-clause-fits : goal.op-requires-clause-fits
op-requires-clause-fits c = takes-not (tree_at (trees c.args.terms.now) c.args.cond) c.requires.cond
