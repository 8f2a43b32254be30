use Rattle.lh_term.specs.Arena.{trees_at}
use Rattle.lh_edge.proofs.Sights.{marking_start}
use Rattle.lh_edge.proofs.shown.EdgePart.are_shown.Goals as goal

pub loop-left-init : goal.loop-left-init
loop-left-init c =
    marking_start c.args.self.now.table.now (trees_at c.args.self.now.terms.now c.args.self.now.atoms.now) c.args.parts.now c.in_ok-shown.shown.items c.in_ok-shown.ensures
