use Rattle.lh_term.specs.Arena.{trees_at}
use Rattle.lh_edge.proofs.Sights.{shows_held, shows_none}
use Rattle.lh_edge.proofs.shown.EdgePart.shows.Goals as goal

pub returns-then-differ : goal.returns-then-differ
returns-then-differ c =
    shows_held c.args.self.now.table.now (trees_at c.args.self.now.terms.now c.args.self.now.atoms.now) c.args._part.now c.args.sight.now c.args.valuation c.requires.sight c.requires.within _ _ _
    c.has_bit-before.ensures c.has_bit-after.ensures c.differ.ensures _ c.if-differ.true c.index.ensures

pub returns : goal.returns
returns c =
    shows_none c.args.self.now.table.now (trees_at c.args.self.now.terms.now c.args.self.now.atoms.now) c.args._part.now c.args.sight.now c.args.valuation c.requires.sight c.requires.within _ _ _
    c.has_bit-before.ensures c.has_bit-after.ensures c.differ.ensures c.if-differ.false
