use Rattle.std.proofs.Common.{◌≤◌, length, arith}
use Rattle.lh_term.specs.Arena.{trees_at}
use Rattle.lh_edge.proofs.Sights.{marked_start, marked_end}
use Rattle.lh_edge.proofs.shown.EdgePart.add_shown.Goals as goal

pub loop-valuation-init : goal.loop-valuation-init
loop-valuation-init c = marked_start c.args.self.now.table.now (trees_at c.args.self.now.terms.now c.args.self.now.atoms.now) c.args.part.now c.args.shown.now

pub returns : goal.returns
returns c =
    let l : length c.args.self.now.table.now ≤ c.loop-valuation.valuation = omega (arith, c.loop-valuation-test.false) in
    marked_end c.args.self.now.table.now (trees_at c.args.self.now.terms.now c.args.self.now.atoms.now) c.args.part.now c.args.shown.now c.loop-valuation.shown c.loop-valuation.valuation l
    c.loop-valuation.invariant
